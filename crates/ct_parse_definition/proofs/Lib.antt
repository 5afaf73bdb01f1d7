pub mod DdlLaws
