-- Open macros differ and are defined, so there are at most as many as names that are defined.
use Rattle.std.proofs.Common.{◌≡◌, suc, ◌≤◌, ◌||◌, Bool, true, false, if◌then◌else◌, List, [], ◌∷◌, length, refl, sym, ap, arith, All, IsSome}
use Rattle.std.specs.Cmp.Lexicographic.{same_text, other_text}
use Rattle.std.proofs.lemmas.List.Elements.{All-head, All-tail, All-cons}
use Rattle.pp_model.specs.Names.{Name, is_same_name, is_in}
use Rattle.pp_macros.specs.inner.Defined.{Defined, meaning_of}
use Rattle.pp_model.specs.ApartMarks.{AreApart}
use Rattle.pp_macros.specs.inner.Frames.{Frame, names_of}

-- the names that are not this one
abbrev without : Name → List Name → List Name
without name [] = []
without name (other ∷ names) = if is_same_name other name then without name names else other ∷ without name names

either_false : (a b : Bool) → (a || b) ≡ false → (a ≡ false) × (b ≡ false)
either_false true b e = absurd (cc)
either_false false b e = (refl, e)

both_false : (a b : Bool) → a ≡ false → b ≡ false → (a || b) ≡ false
both_false a b e f = rw e f

not_in_without : (x name : Name) (names : List Name) → is_in x names ≡ false → is_in x (without name names) ≡ false
not_in_without x name [] h = refl
not_in_without x name (other ∷ names) h =
    let p = either_false (is_same_name x other) (is_in x names) h in
    go (is_same_name other name) refl p.0 (not_in_without x name names p.1)
  where
    go : (b : Bool) → is_same_name other name ≡ b → is_same_name x other ≡ false → is_in x (without name names) ≡ false
        → is_in x (without name (other ∷ names)) ≡ false
    go true e p q = rw e q
    go false e p q = rw e (both_false (is_same_name x other) (is_in x (without name names)) p q)

apart_without : (name : Name) (names : List Name) → AreApart names → AreApart (without name names)
apart_without name [] h = tt
apart_without name (other ∷ names) h = go (is_same_name other name) refl (apart_without name names h.1)
  where
    go : (b : Bool) → is_same_name other name ≡ b → AreApart (without name names) → AreApart (without name (other ∷ names))
    go true e p = rw e p
    go false e p = rw e (not_in_without other name names h.0, p)

-- a name that is not among them leaves them as they are
absent_without : (name : Name) (names : List Name) → is_in name names ≡ false → without name names ≡ names
absent_without name [] h = refl
absent_without name (other ∷ names) h =
    let p = either_false (is_same_name name other) (is_in name names) h in
    go (is_same_name other name) refl p.0 (absent_without name names p.1)
  where
    go : (b : Bool) → is_same_name other name ≡ b → is_same_name name other ≡ false → without name names ≡ names → without name (other ∷ names) ≡ other ∷ names
    go true e p q = absurd (other_text name other (sym p) (sym (same_text other name (sym e))))
    go false e p q = rw e (ap (λ (l : List Name). other ∷ l) q)

-- of names that differ, one at most is this one
length_without : (name : Name) (names : List Name) → AreApart names → length names ≤ suc (length (without name names))
length_without name [] h = omega arith
length_without name (other ∷ names) h = go (is_same_name other name) refl (length_without name names h.1)
  where
    go : (b : Bool) → is_same_name other name ≡ b → length names ≤ suc (length (without name names))
        → length (other ∷ names) ≤ suc (length (without name (other ∷ names)))
    go true e p =
        let same : other ≡ name = same_text other name (sym e) in
        let absent : is_in name names ≡ false = rw (← same) h.0 in
        let all : length (without name names) ≡ length names = ap length (absent_without name names absent) in
        rw e (omega arith)
    go false e p = rw e (omega arith)

-- the name stands for something
abbrev pub IsDefined : List Defined → Name → Type 0
IsDefined definitions name = IsSome (meaning_of definitions name)

abbrev AreDefined : List Defined → List Name → Type 0
AreDefined definitions names = All (IsDefined definitions) names

defined_without : (d : Defined) (ds : List Defined) (names : List Name) → AreDefined (d ∷ ds) names → AreDefined ds (without d.name names)
defined_without d ds [] h = λ k x low. absurd (omega arith)
defined_without d ds (other ∷ names) h =
    go (is_same_name other d.name) refl (All-head (IsDefined (d ∷ ds)) other names h) (defined_without d ds names (All-tail (IsDefined (d ∷ ds)) other names h))
  where
    go : (b : Bool) → is_same_name other d.name ≡ b → IsDefined (d ∷ ds) other → AreDefined ds (without d.name names)
        → AreDefined ds (without d.name (other ∷ names))
    go true e p q = rw e q
    go false e p q =
        let here : IsDefined ds other = rw e at p in
        rw e (All-cons (IsDefined ds) other (without d.name names) here q)

-- names that differ and are defined are at most as many as the definitions
pub apart_names_few : (definitions : List Defined) (names : List Name) → AreApart names → AreDefined definitions names → length names ≤ length definitions
apart_names_few [] [] h g = omega arith
apart_names_few [] (name ∷ names) h g = let p : IsDefined [] name = All-head (IsDefined []) name names g in absurd (cc)
apart_names_few (d ∷ ds) names h g =
    let few : length (without d.name names) ≤ length ds = apart_names_few ds (without d.name names) (apart_without d.name names h)
    (defined_without d ds names g) in
    omega (arith, length_without d.name names h)

pub length_names : (frames : List Frame) → length (names_of frames) ≡ length frames
length_names [] = refl
length_names (f ∷ fs) = ap suc (length_names fs)
