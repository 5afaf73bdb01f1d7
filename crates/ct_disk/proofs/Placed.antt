-- One area of a list is changed.
use Rattle.std.proofs.Common.{◌≡◌, ℕ, zero, suc, ◌+◌, ◌<◌, ◌≤◌, List, [], ◌∷◌, length, set, get_or, refl, sym, ap, ◌∙◌, ◌++◌, take, subst, arith, Vec, vec_capacity}
use Rattle.std.proofs.lemmas.List.{take_more, take_more_set}
use Rattle.std.specs.declared.alloc.Global.{Global}
use Rattle.ct_disk.specs.Areas.{area_at, contents_of, HaveRoom}

abbrev Areas : Type 0
Areas = List (Vec ℕ Global)

pub area_at-set : (areas : Areas) (area : ℕ) (bytes : Vec ℕ Global) → area < length areas → area_at (set areas area bytes) area ≡ bytes.items
area_at-set [] area bytes lt = absurd (omega arith)
area_at-set (x ∷ areas) zero bytes lt = refl
area_at-set (x ∷ areas) (suc area) bytes lt = area_at-set areas area bytes (omega arith)

pub area_at-other : (areas : Areas) (area other : ℕ) (bytes : Vec ℕ Global) → (other ≡ area → ⊥) → area_at (set areas area bytes) other ≡ area_at areas other
area_at-other [] area other bytes ne = refl
area_at-other (x ∷ areas) zero zero bytes ne = absurd (ne refl)
area_at-other (x ∷ areas) zero (suc other) bytes ne = refl
area_at-other (x ∷ areas) (suc area) zero bytes ne = refl
area_at-other (x ∷ areas) (suc area) (suc other) bytes ne = area_at-other areas area other bytes (λ e. ne (omega (arith, e)))

pub area_at-read : (areas : Areas) (area : ℕ) (bytes : Vec ℕ Global) → area < length areas → bytes ≡ get_or areas area bytes → area_at areas area ≡ bytes.items
area_at-read [] area bytes lt is = absurd (omega arith)
area_at-read (x ∷ areas) zero bytes lt is = ap (λ (v : Vec ℕ Global). v.items) (sym is)
area_at-read (x ∷ areas) (suc area) bytes lt is = area_at-read areas area bytes (omega arith) is

-- the contents, where one vector gets another one with the same bytes
pub contents-same : (areas : Areas) (area : ℕ) (bytes more : Vec ℕ Global) → area < length areas → bytes ≡ get_or areas area bytes → more.items ≡ bytes.items → contents_of (set areas area more) ≡ contents_of areas
contents-same [] area bytes more lt is same = absurd (omega arith)
contents-same (x ∷ areas) zero bytes more lt is same = λ i. (same ∙ ap (λ (v : Vec ℕ Global). v.items) is) i ∷ contents_of areas
contents-same (x ∷ areas) (suc area) bytes more lt is same = ap (λ (l : List (List ℕ)). x.items ∷ l) (contents-same areas area bytes more (omega arith) is same)

-- the first contents, with other bytes in one area
pub contents-set : (areas : Areas) (area : ℕ) (bytes : Vec ℕ Global) → contents_of (set areas area bytes) ≡ set (contents_of areas) area bytes.items
contents-set [] area bytes = refl
contents-set (x ∷ areas) zero bytes = refl
contents-set (x ∷ areas) (suc area) bytes = ap (λ (l : List (List ℕ)). x.items ∷ l) (contents-set areas area bytes)

pub contents-length : (areas : Areas) → length (contents_of areas) ≡ length areas
contents-length [] = refl
contents-length (x ∷ areas) = omega (arith, contents-length areas)

contents-push : (areas : Areas) (bytes : Vec ℕ Global) → contents_of (areas ++ bytes ∷ []) ≡ contents_of areas ++ bytes.items ∷ []
contents-push [] bytes = refl
contents-push (x ∷ areas) bytes = ap (λ (l : List (List ℕ)). x.items ∷ l) (contents-push areas bytes)

-- one vector more was copied
contents-get : (areas : Areas) (i : ℕ) (there : Vec ℕ Global) → i < length areas → there ≡ get_or areas i there → there.items ≡ get_or (contents_of areas) i there.items
contents-get [] i there lt is = absurd (omega arith)
contents-get (x ∷ areas) zero there lt is = ap (λ (v : Vec ℕ Global). v.items) is
contents-get (x ∷ areas) (suc i) there lt is = contents-get areas i there (omega arith) is

pub contents-copied : (areas made more : Areas) (i : ℕ) (there bytes : Vec ℕ Global) → i < length areas → there ≡ get_or areas i there → bytes.items ≡ there.items
    → contents_of made ≡ take i (contents_of areas) → more ≡ made ++ bytes ∷ [] → contents_of more ≡ take (i + 1) (contents_of areas)
contents-copied areas made more i there bytes lt is same copied pushed =
    ap contents_of pushed ∙ contents-push made bytes ∙ (λ k. copied k ++ (same ∙ contents-get areas i there lt is) k ∷ [])
    ∙ sym (take_more (contents_of areas) i there.items (omega (arith, lt, contents-length areas)))

-- room

pub HaveRoom-less : (n m : ℕ) (areas : Areas) → m ≤ n → HaveRoom n areas → HaveRoom m areas
HaveRoom-less n m [] le room = room
HaveRoom-less n m (x ∷ areas) le room = (omega (arith, room.0), HaveRoom-less n m areas le room.1)

pub HaveRoom-none : (areas : Areas) → HaveRoom 0 areas
HaveRoom-none [] = tt
HaveRoom-none (x ∷ areas) = (omega (arith, x.ok.0, x.ok.1), HaveRoom-none areas)

pub HaveRoom-set : (n m : ℕ) (areas : Areas) (area : ℕ) (bytes : Vec ℕ Global) → m ≤ n → HaveRoom n areas → length bytes.items + m ≤ vec_capacity bytes → HaveRoom m (set areas area bytes)
HaveRoom-set n m [] area bytes le room has = tt
HaveRoom-set n m (x ∷ areas) zero bytes le room has = (has, HaveRoom-less n m areas le room.1)
HaveRoom-set n m (x ∷ areas) (suc area) bytes le room has = (omega (arith, room.0), HaveRoom-set n m areas area bytes le room.1 has)

pub HaveRoom-at : (n : ℕ) (areas : Areas) (area : ℕ) (bytes : Vec ℕ Global) → area < length areas → bytes ≡ get_or areas area bytes → HaveRoom n areas → length bytes.items + n ≤ vec_capacity bytes
HaveRoom-at n [] area bytes lt is room = absurd (omega arith)
HaveRoom-at n (x ∷ areas) zero bytes lt is room = subst (λ (v : Vec ℕ Global). length v.items + n ≤ vec_capacity v) (sym is) room.0
HaveRoom-at n (x ∷ areas) (suc area) bytes lt is room = HaveRoom-at n areas area bytes (omega arith) is room.1

HaveRoom-append : (n : ℕ) (areas more : Areas) → HaveRoom n areas → HaveRoom n more → HaveRoom n (areas ++ more)
HaveRoom-append n [] more a b = b
HaveRoom-append n (x ∷ areas) more a b = (a.0, HaveRoom-append n areas more a.1 b)

-- the first areas have room, and one more
pub HaveRoom-next : (n : ℕ) (areas : Areas) (i : ℕ) (bytes : Vec ℕ Global) → i < length areas → HaveRoom n (take i areas) → length bytes.items + n ≤ vec_capacity bytes → HaveRoom n (take (i + 1) (set areas i bytes))
HaveRoom-next n areas i bytes lt room has = subst (λ (l : Areas). HaveRoom n l) (sym (take_more_set areas i bytes lt)) (HaveRoom-append n (take i areas) (bytes ∷ []) room (has, tt))

-- an area with the same bytes and more memory
pub HaveRoom-grown : (n : ℕ) (areas : Areas) (area : ℕ) (bytes more : Vec ℕ Global) → area < length areas → bytes ≡ get_or areas area bytes → more.items ≡ bytes.items → vec_capacity bytes ≤ vec_capacity more → HaveRoom n areas → HaveRoom n (set areas area more)
HaveRoom-grown n areas area bytes more lt is same grown room = HaveRoom-set n n areas area more (omega arith) room (omega (arith, HaveRoom-at n areas area bytes lt is room, ap length same))
