-- How many of some names are not open: one fewer once one of them is.
use Rattle.std.proofs.Common.{◌≡◌, ℕ, suc, ◌≤◌, ◌<◌, Bool, true, false, if◌then◌else◌, List, [], ◌∷◌, refl, arith}
use Rattle.std.specs.Cmp.Lexicographic.{bytes_decides}
use Rattle.pp_model.specs.Names.{Name, is_same_name, is_in}

-- how many of these names are not among the open ones
abbrev pub room : List Name → List Name → ℕ
room [] open_now = 0
room (name ∷ names) open_now = if is_in name open_now then room names open_now else suc (room names open_now)

room_stays : (names : List Name) (m : Name) (open_now : List Name) → room names (m ∷ open_now) ≤ room names open_now
room_stays [] m open_now = omega arith
room_stays (name ∷ names) m open_now = go (is_same_name name m) refl (is_in name open_now) refl (room_stays names m open_now)
  where
    go : (b : Bool) → is_same_name name m ≡ b → (c : Bool) → is_in name open_now ≡ c → room names (m ∷ open_now) ≤ room names open_now
        → room (name ∷ names) (m ∷ open_now) ≤ room (name ∷ names) open_now
    go true p true q less = rw (p, q) less
    go true p false q less = rw (p, q) (omega (arith, less))
    go false p true q less = rw (p, q) less
    go false p false q less = rw (p, q) (omega (arith, less))

-- A name of the list that was not open opens.
pub room_falls : (names : List Name) (m : Name) (open_now : List Name) → is_in m names ≡ true → is_in m open_now ≡ false
    → room names (m ∷ open_now) < room names open_now
room_falls [] m open_now h closed = cc
room_falls (name ∷ names) m open_now h closed = by (is_same_name m name) refl (λ t. room_falls names m open_now t closed)
  where
    first : m ≡ name → is_same_name m name ≡ true → room (name ∷ names) (m ∷ open_now) < room (name ∷ names) open_now
    first e p =
        let same : is_same_name name name ≡ true = rw e at p in
        let shut : is_in name open_now ≡ false = rw e at closed in
        rw (e, same, shut) (omega (arith, room_stays names name open_now))

    later : (b : Bool) → is_same_name name m ≡ b → (c : Bool) → is_in name open_now ≡ c → room names (m ∷ open_now) < room names open_now
        → room (name ∷ names) (m ∷ open_now) < room (name ∷ names) open_now
    later true p true q less = rw (p, q) less
    later true p false q less = rw (p, q) (omega (arith, less))
    later false p true q less = rw (p, q) less
    later false p false q less = rw (p, q) (omega (arith, less))

    by : (b : Bool) → is_same_name m name ≡ b → (is_in m names ≡ true → room names (m ∷ open_now) < room names open_now)
        → room (name ∷ names) (m ∷ open_now) < room (name ∷ names) open_now
    by true p less = first ((bytes_decides m name).0 p) p
    by false p less = later (is_same_name name m) refl (is_in name open_now) refl (less (rw p at h))
