-- Each act of a source keeps its items and finitely many definitions; where it defines a name, it leaves the definitions to the
-- step; and if reading goes on after it, the position has moved.
use Rattle.std.proofs.Common.{◌≡◌, ◌⊎◌, inl, inr, ℕ, ◌+◌, ◌≤◌, ◌<◌, Bool, false, not, List, [], ◌∷◌, drop, length, refl, ap, arith, Option, Some, None}
use Rattle.std.proofs.lemmas.List.{length-drop}
use Rattle.pp_model.specs.Blocks.{Block}
use Rattle.pp_model.specs.SourceReader.{Suspended, SourceReader}
use Rattle.pp_model.specs.Acts.{Acted, leave, end_by, act}
use Rattle.pp_model.specs.ExistenceLaws.{is_given_token, IsFinite}
use Rattle.pp_model.specs.declared.definition.Named.{Named}
use Rattle.pp_model.specs.declared.step.Step.{Step}
use Rattle.pp_model.specs.declared.step.Step.TheVariants as step
use Rattle.pp_model.proofs.source.ActsLemmas.{HoldsOfActs, act_holds}
use Rattle.pp_model.proofs.existence.DefinitionLemmas.{without_one}

-- an error or the end is given, after which nothing is read
abbrev pub stops : Step → Bool
stops (step.Given o) = not (is_given_token o)
stops _ = false

-- so much is left of the texts around
abbrev left_around : List Suspended → ℕ
left_around [] = 0
left_around (text ∷ texts) = 1 + length (drop text.position text.items) + left_around texts

-- so much is left of a source and of the texts around
abbrev pub left : SourceReader → ℕ
left r = length (drop r.position r.items) + left_around r.around

-- reading goes on further on in the same text, or less is left
abbrev GoesFurther : SourceReader → SourceReader → Type 0
GoesFurther r t = ((t.items ≡ r.items) × (t.around ≡ r.around) × (r.position + 1 ≤ t.position)) ⊎ (left t < left r)

-- Each act keeps finitely many definitions; where it defines a name, it leaves the definitions to the step; and where reading goes on
-- after it, it goes on further on.
pub record Moves (r : SourceReader) (a : Acted) : Type 0 where
  pub finite : IsFinite r.definitions → IsFinite a.after.definitions
  pub left_to_step : (named : Named) → a.step ≡ step.Defines named → a.after.definitions ≡ r.definitions
  pub further : stops a.step ≡ false → GoesFurther r a.after

-- the definitions stay
stays : (r : SourceReader) (a : Acted) → a.after.definitions ≡ r.definitions → (stops a.step ≡ false → GoesFurther r a.after) → Moves r a
stays r a same further = record { finite = λ f. rw same f; left_to_step = λ named h. same; further = further }

-- at the end of an included text less is left behind it
leave_less : (r : SourceReader) (around : List Suspended) (n : ℕ) → stops (leave around r).step ≡ false → left (leave around r).after < n + left_around around
leave_less r [] n h = cc
leave_less r (outer ∷ around) n h = omega arith

leave_stays : (r : SourceReader) (around : List Suspended) → (leave around r).after.definitions ≡ r.definitions
leave_stays r [] = refl
leave_stays r (outer ∷ around) = refl

pub end_less : (r : SourceReader) (block : Option Block) (n : ℕ) → stops (end_by block r).step ≡ false → left (end_by block r).after < n + left_around r.around
end_less r (Some block) n h = cc
end_less r None n h = leave_less r r.around n h

pub end_moves : (r : SourceReader) (block : Option Block) → Moves r (end_by block r)
end_moves r (Some block) = stays r _ refl (λ h. cc)
end_moves r None = stays r _ (leave_stays r r.around) (λ h. inr (end_less r None (length (drop r.position r.items)) h))

-- Each kind of act moves so.
pub acts_move : (r : SourceReader) → HoldsOfActs (Moves r) r
acts_move r = record {
  end = λ there. end_moves r _;
  fault = λ found. stays r _ refl (λ h. cc);
  nothing = λ count least. stays r _ refl (λ h. inl (refl, refl, omega (arith, least)));
  wanted = λ word tokens. stays r _ refl (λ h. inl (refl, refl, omega arith));
  numbered = λ its word tokens. stays r _ refl (λ h. inl (refl, refl, omega arith));
  asked = λ its word is. stays r _ refl (λ h. inl (refl, refl, omega arith));
  defined = λ its word named is. stays r _ refl (λ h. inl (refl, refl, omega arith));
  changed = λ its name. record {
    finite = λ f. without_one r.definitions name f;
    left_to_step = λ named h. cc;
    further = λ h. inl (refl, refl, omega arith);
  };
  decision = λ its holds. stays r _ refl (λ h. inl (refl, refl, omega arith));
  token = λ its shown stands count least. stays r _ refl (λ h. inl (refl, refl, omega (arith, least)));
}

-- So does each act of a source.
pub moves : (r : SourceReader) → Moves r (act r)
moves r = act_holds (Moves r) r (acts_move r)

-- Where some items are left, a reader that goes further has less left.
pub further_less : (r t : SourceReader) → 1 ≤ length (drop r.position r.items) → GoesFurther r t → left t < left r
further_less r t least (inl (items, around, further)) =
    omega (arith, length-drop t.position t.items, length-drop r.position r.items, ap length items, ap left_around around, further, least)
further_less r t least (inr less) = less

-- The reader after an act that doesn't stop has less left.
pub act_less_left : (r : SourceReader) → stops (act r).step ≡ false → left (act r).after < left r
act_less_left r on = go (drop r.position r.items) refl
  where
    go : (rest : List _) → drop r.position r.items ≡ rest → left (act r).after < left r
    go [] p = (let less : stops (act r).step ≡ false → left (act r).after < left r = rw p (end_less r _ 0) in less) on
    go (s ∷ rest) p = further_less r (act r).after (rw p (omega arith)) ((moves r).further on)
