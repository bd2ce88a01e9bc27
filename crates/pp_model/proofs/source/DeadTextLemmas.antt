-- Dead text gives no token, defines nothing and numbers no line.
use Rattle.std.proofs.Common.{◌≡◌, ◌∙◌, List, [], ◌∷◌, length, arith, Bool, true, false, refl, sym, ap, Option, Some, None}
use Rattle.pp_model.specs.Blocks.{Block}
use Rattle.pp_model.specs.SourceReader.{Suspended, SourceReader}
use Rattle.pp_model.specs.Acts.{Acted, leave, end_by}
use Rattle.pp_model.specs.BlockLaws.{GivesNothing, DeadTextGivesNothing}
use Rattle.pp_model.specs.declared.outcome.Outcome.TheVariants as outcome
use Rattle.pp_model.specs.declared.step.Step.{Step}
use Rattle.pp_model.specs.declared.step.Step.TheVariants as step
use Rattle.pp_model.proofs.source.ActsLemmas.{act_holds}

abbrev gives_something : Step → Bool
gives_something (step.Given (outcome.Token token)) = true
gives_something (step.Given (outcome.Include line)) = true
gives_something (step.Defines named) = true
gives_something (step.LineNumber word tokens) = true
gives_something _ = false

differs : (s t : Step) → gives_something s ≡ false → gives_something t ≡ true → s ≡ t → ⊥
differs s t h k same = let bad : false ≡ true = sym h ∙ ap gives_something same ∙ k in cc

gives_nothing : (r : SourceReader) (a : Acted) → gives_something a.step ≡ false → a.after.definitions ≡ r.definitions
    → (a.after.around ≡ r.around → a.after.line_offset ≡ r.line_offset) → GivesNothing r a
gives_nothing r a h definitions lines = record {
  no_token = λ token. differs a.step _ h refl;
  no_include = λ line. differs a.step _ h refl;
  no_define = λ named. differs a.step _ h refl;
  no_line_number = λ word tokens. differs a.step _ h refl;
  same_definitions = definitions;
  same_lines = lines;
}

-- at the end only faults are given, and the end
end_gives_nothing : (r : SourceReader) (block : Option Block) → GivesNothing r (end_by block r)
end_gives_nothing r (Some block) = gives_nothing r _ refl refl (λ _. refl)
end_gives_nothing r None = leave_gives_nothing r r.around refl
  where
    leave_gives_nothing : (r : SourceReader) (around : List Suspended) → r.around ≡ around → GivesNothing r (leave around r)
    leave_gives_nothing r [] e = gives_nothing r _ refl refl (λ _. refl)
    leave_gives_nothing r (outer ∷ around) e = gives_nothing r _ refl refl (λ same. absurd (omega (arith, ap length (same ∙ e))))

pub dead_text_gives_nothing : DeadTextGivesNothing
dead_text_gives_nothing r dead = act_holds (GivesNothing r) r (record {
  end = λ there. end_gives_nothing r _;
  fault = λ found. gives_nothing r _ refl refl (λ _. refl);
  nothing = λ count least. gives_nothing r _ refl refl (λ _. refl);
  wanted = λ word tokens. gives_nothing r _ refl refl (λ _. refl);
  numbered = λ live word tokens. cc;
  asked = λ live word is. cc;
  defined = λ live word named is. cc;
  changed = λ live name. cc;
  decision = λ live holds. cc;
  token = λ live shown stands count least. cc;
})
