-- A law: a call that stops gives the first of the items of a call that goes on.
use Rattle.std.specs.Prelude.{◌≡◌, ℕ, ◌≤◌, Bool, false, List, ◌++◌, length}
use Rattle.pp_model.specs.declared.outcome.Outcome.{Outcome}
use Rattle.pp_rs.specs.declared.rules.Rules.{Rules}
use Rattle.pp_c.specs.Preprocessed.{Given, outcomes_of, AreItemsBy}
use Rattle.pp_c.specs.declared.items.Definition.{Definition}

-- If a call stops before the end, another over the same source and definitions gives the same first, if it gives as
-- many items or more.
abbrev pub FrontsStay : Type 0
FrontsStay =
    (rules : Rules) (source words : List ℕ) (definitions : List Definition) (front given : List Given)
    (has_ended : Bool)
    → AreItemsBy rules false source words definitions false front
    → AreItemsBy rules false source words definitions has_ended given
    → length front ≤ length given
    → (rest : List Outcome) × (outcomes_of has_ended given ≡ outcomes_of false front ++ rest)
