mod Listed
mod Numbers
mod Puts
