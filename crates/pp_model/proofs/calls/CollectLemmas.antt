-- Items that are collected one after another, and arguments that are expanded one after another.
use Rattle.std.proofs.Common.{◌≡◌, ℕ, ◌<◌, ◌∷◌, ◌++◌, [], List, refl, ap, sym, subst, append_assoc}
use Rattle.std.proofs.Common.{◌+◌, ◌≤◌, length, drop, get_or}
use Rattle.std.proofs.lemmas.List.{append-nil, drop_all}
use Rattle.pp_model.proofs.ListLemmas.{drop-item}
use Rattle.std.specs.Prelude.{Result, Ok, Err}
use Rattle.pp_model.specs.Places.{PlacedFault}
use Rattle.pp_model.specs.declared.read.Read.{Read}
use Rattle.pp_model.specs.Names.{Name}
use Rattle.pp_model.specs.Definitions.{Definitions}
use Rattle.pp_model.specs.Emitting.{Alones, Each, none, first_failed, more}
use Rattle.pp_model.specs.inner.Emitting.{read_before, list_before}
use Rattle.pp_model.specs.declared.numbering.Numbering.{Numbering}

-- the items so far, and then what comes of the rest
abbrev pub after_items : {X : Type 0} → List X → Result (List X) PlacedFault → Result (List X) PlacedFault
after_items items (Ok rest) = Ok (items ++ rest)
after_items items (Err fault) = Err fault

pub after_items-before : (items : List Read) (token : Read) (rest : Result (List Read) PlacedFault)
    → after_items items (read_before token rest) ≡ after_items (items ++ token ∷ []) rest
after_items-before items token (Ok rest) = rw append_assoc refl
after_items-before items token (Err fault) = refl

pub after_lists-before : (lists : List (List Read)) (list : List Read) (rest : Result (List (List Read)) PlacedFault)
    → after_items lists (list_before list rest) ≡ after_items (lists ++ list ∷ []) rest
after_lists-before lists list (Ok rest) = rw append_assoc refl
after_lists-before lists list (Err fault) = refl

pub after_items-end : {X : Type 0} (items : List X) → after_items items (Ok []) ≡ Ok items
after_items-end {X} items = ap (λ (xs : List X). let r : Result (List X) PlacedFault = Ok xs in r) (append-nil items)

-- the arguments from a place on, by the one that stands there
pub each_at-failed : (deeper : Alones) (numbering : Numbering) (visible : Definitions) (hidden : List Name) (arguments : List (List Read)) (i : ℕ) (x tokens : List Read)
    (fault : PlacedFault) → i < length arguments → x ≡ get_or arguments i x → tokens ≡ x → deeper tokens numbering visible hidden (Err fault)
    → Each deeper numbering visible hidden (drop i arguments) (Err fault)
each_at-failed deeper numbering visible hidden arguments i x tokens fault h e s d =
    subst (λ (xs : List (List Read)). Each deeper numbering visible hidden xs (Err fault)) (sym (drop-item arguments i x h e))
    (first_failed x (drop (i + 1) arguments) fault (Err fault) (subst (λ (ts : List Read). deeper ts numbering visible hidden (Err fault)) s d) refl)

pub each_at-more : (deeper : Alones) (numbering : Numbering) (visible : Definitions) (hidden : List Name) (arguments : List (List Read))
    (i : ℕ) (x tokens list : List Read) (out : Result (List (List Read)) PlacedFault) → i < length arguments → x ≡ get_or arguments i x → tokens ≡ x
    → deeper tokens numbering visible hidden (Ok list) → Each deeper numbering visible hidden (drop (i + 1) arguments) out
    → Each deeper numbering visible hidden (drop i arguments) (list_before list out)
each_at-more deeper numbering visible hidden arguments i x tokens list out h e s d each =
    subst (λ (xs : List (List Read)). Each deeper numbering visible hidden xs (list_before list out)) (sym (drop-item arguments i x h e))
    (more x list (drop (i + 1) arguments) out (list_before list out) (subst (λ (ts : List Read). deeper ts numbering visible hidden (Ok list)) s d) each refl)

pub each_at-end : (deeper : Alones) (numbering : Numbering) (visible : Definitions) (hidden : List Name) (arguments : List (List Read)) (i : ℕ) → length arguments ≤ i
    → Each deeper numbering visible hidden (drop i arguments) (Ok [])
each_at-end deeper numbering visible hidden arguments i h =
    let e : drop i arguments ≡ [] = drop_all i arguments h in
    subst (λ (xs : List (List Read)). Each deeper numbering visible hidden xs (Ok [])) (sym e) (none (Ok []) refl)
