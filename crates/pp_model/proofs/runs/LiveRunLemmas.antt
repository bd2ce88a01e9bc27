-- What a reader gives more widely, an expander over it does too; and reading a source takes nothing from dead text.
use Rattle.std.proofs.Common.{◌≡◌, ◌∙◌, ℕ, List, refl, sym, ap, Option, Some, None, inl, inr, Result}
use Rattle.pp_lexer.specs.declared.rules.Rules.{Rules}
use Rattle.pp_model.specs.Painting.{taken_of}
use Rattle.pp_model.specs.declared.read.Read.{Read}
use Rattle.pp_model.specs.declared.place.Place.{Place}
use Rattle.pp_model.specs.Places.{PlacedFault, place_of}
use Rattle.pp_model.specs.Reading.{Reading, Expander}
use Rattle.pp_model.specs.Taking.{Fetches, held, listed, read, Takes}
use Rattle.pp_model.specs.Calls.{Answers, Gathered, Gathers, closed, inside, overfull, ended, failed, Called, Calls, alone, broken, whole}
use Rattle.pp_model.specs.Definitions.{Definition}
use Rattle.pp_model.specs.Emitting.{Emits, itself, object, name_alone, call_refused, call}
use Rattle.pp_model.specs.SourceReader.{SourceReader}
use Rattle.pp_model.specs.Acts.{act}
use Rattle.pp_model.specs.Reads as reads
use Rattle.pp_model.specs.Reads.{Steps, Reads, source_reading}
use Rattle.pp_model.specs.Run as run
use Rattle.pp_model.specs.Run.{by_rules, Call, Comings, Gives, Runs}
use Rattle.pp_model.specs.BlockLaws.{GivesNothing}
use Rattle.pp_model.specs.LiveRuns as live
use Rattle.pp_model.specs.LiveRuns.{IsWithoutEffect, LiveSteps, LiveReads, live_reading, GivesLive, RunsAreLive}
use Rattle.pp_model.specs.declared.call.Reply.{Reply}
use Rattle.pp_model.specs.declared.outcome.Outcome.{Outcome}
use Rattle.pp_model.specs.declared.outcome.Outcome.TheVariants as outcome
use Rattle.pp_model.specs.declared.read.Taken.TheVariants as taken
use Rattle.pp_model.specs.declared.step.Step.{Step}
use Rattle.pp_model.specs.declared.step.Step.TheVariants as step
use Rattle.pp_model.specs.declared.read.Taken.{Taken}
use Rattle.pp_model.proofs.source.DeadTextLemmas.{dead_text_gives_nothing}
use Rattle.pp_model.proofs.source.ReadsLemmas.{GivenBy, HoldsAfter, given_by, holds_after}

-- An expander over a reader that gives what `I` does, and may give more.
module _ {R : Type 0} (I : Reading R) (Wider : R → Taken → R → Type 0) (wider : (r : R) (x : Taken) (t : R) → I.Reads r x t → Wider r x t) where
  abbrev J : Reading R
  J = record I { Reads = Wider }

  fetches : (x : Taken) (e f : Expander R) → Fetches I e x f → Fetches J e x f
  fetches x e f (held o e1 f1 h p) = held o e1 f1 h p
  fetches x e f (listed o t rest e1 f1 h l s p) = listed o t rest e1 f1 h l s p
  fetches x e f (read y o r e1 f1 h l m s p) = read y o r e1 f1 h l (wider e1.reader y r m) s p

  takes : (x : Taken) (e f : Expander R) → Takes I e x f → Takes J e x f
  takes x e f t = record { first = t.first; fetches = fetches t.first e f t.fetches; paints = t.paints }

  gathers : (n : ℕ) (last : Place) (e : Expander R) (g : Result Gathered PlacedFault) (f : Expander R) → Gathers I n last e g f → Gathers J n last e g f
  gathers n last e g f (closed n1 last1 t e1 f1 g1 h c s) = closed n1 last1 t e1 f1 g1 (takes _ _ _ h) c s
  gathers n last e g f (inside n1 k last1 t e1 f1 h1 rest g1 h c more s) =
      inside n1 k last1 t e1 f1 h1 rest g1 (takes _ _ _ h) c (gathers k (place_of t) f1 rest h1 more) s
  gathers n last e g f (overfull n1 last1 t e1 f1 g1 h c s) = overfull n1 last1 t e1 f1 g1 (takes _ _ _ h) c s
  gathers n last e g f (ended n1 last1 e1 f1 g1 h s) = ended n1 last1 e1 f1 g1 (takes _ _ _ h) s
  gathers n last e g f (failed n1 last1 fault e1 f1 g1 h s) = failed n1 last1 fault e1 f1 g1 (takes _ _ _ h) s

  module _ (A : Answers) where
    calls : (d : Definition) (e : Expander R) (c : Called) (f : Expander R) → Calls I A d e c f → Calls J A d e c f
    calls d e c f (alone o e1 f1 c1 h p s) = alone o e1 f1 c1 (takes _ _ _ h) p s
    calls d e c f (broken o paren fault e1 f1 g1 c1 h p more s) = broken o paren fault e1 f1 g1 c1 (takes _ _ _ h) p (gathers _ _ _ _ _ more) s
    calls d e c f (whole o paren gathered answer e1 f1 g1 c1 h p more a s) =
        whole o paren gathered answer e1 f1 g1 c1 (takes _ _ _ h) p (gathers _ _ _ _ _ more) a s

    pub emits : (e : Expander R) (o : Taken) (f : Expander R) → Emits I A e o f → Emits J A e o f
    emits e o f (itself x o1 e1 f1 h n s) = itself x o1 e1 f1 (takes _ _ _ h) n s
    emits e o f (object x o1 m e1 f1 h1 h n k more) = object x o1 m e1 f1 h1 (takes _ _ _ h) n k (emits _ _ _ more)
    emits e o f (name_alone x y o1 m e1 f1 g1 h1 h n k c s p) = name_alone x y o1 m e1 f1 g1 h1 (takes _ _ _ h) n k (calls _ _ _ _ c) s p
    emits e o f (call_refused x o1 fault m e1 f1 g1 h n k c s) = call_refused x o1 fault m e1 f1 g1 (takes _ _ _ h) n k (calls _ _ _ _ c) s
    emits e o f (call x o1 arguments line m e1 f1 g1 h1 h n k c more) =
        call x o1 arguments line m e1 f1 g1 h1 (takes _ _ _ h) n k (calls _ _ _ _ c) (emits _ _ _ more)

-- A step in dead text is without effect.
module _ (A : Answers) (r : SourceReader) (nothing : GivesNothing r (act r)) (o : Option Taken) (t : SourceReader) (s : Steps A r o t) where
  -- the definitions and what is added to a line are the same
  abbrev IsSame : SourceReader → Type 0
  IsSame reader = (reader.definitions ≡ r.definitions) × (reader.around ≡ r.around → reader.line_offset ≡ r.line_offset)

  same_after : (did : Step) → (act r).step ≡ did → HoldsAfter IsSame r did (act r).after
  same_after step.Passed e = (nothing.same_definitions, nothing.same_lines)
  same_after (step.Given x) e = (nothing.same_definitions, nothing.same_lines)
  same_after (step.Defines named) e = absurd (nothing.no_define named e)
  same_after (step.Condition word tokens) e = ((refl, λ _. refl), λ holds. (nothing.same_definitions, nothing.same_lines))
  same_after (step.LineNumber word tokens) e = absurd (nothing.no_line_number word tokens e)

  otherwise : (given : Read) → o ≡ Some (taken.Token given) → GivenBy r.text step.Passed o → ⊥
  otherwise given e (inl n) = let bad : None ≡ Some (taken.Token given) = sym n ∙ e in cc
  otherwise given e (inr n) = let bad : Some (taken.Fault n.0) ≡ Some (taken.Token given) = sym n.1 ∙ e in cc

  -- the outcome of a token that was given
  token_of : (x : Outcome) (given : Read) → taken_of r.text x ≡ taken.Token given → x ≡ outcome.Token given.token
  token_of (outcome.Token token) given e = ap (λ o. outcome.Token o) (let z = e in cc)
  token_of (outcome.Fault fault) given e = cc
  token_of (outcome.Include line) given e = cc
  token_of outcome.End given e = cc

  no_token : (given : Read) → o ≡ Some (taken.Token given) → (did : Step) → (act r).step ≡ did → GivenBy r.text did o → ⊥
  no_token given e (step.Given x) h g =
      let same : taken_of r.text x ≡ taken.Token given = cc in
      nothing.no_token given.token (h ∙ ap step.Given (token_of x given same))
  no_token given e _ h g = otherwise given e g

  without_effect : IsWithoutEffect r o t
  without_effect =
      let same = holds_after A r o t IsSame (act r).step (act r).after (same_after (act r).step refl) s in
      record {
        no_token = λ given e. no_token given e (act r).step refl (given_by A r o t (act r).step (act r).after s);
        same_definitions = same.0;
        same_lines = same.1;
      }

live_step : (A : Answers) (r : SourceReader) (o : Option Taken) (t : SourceReader) → Steps A r o t → LiveSteps A r o t
live_step A r o t s = record { steps = s; in_dead_text = λ dead. without_effect A r (dead_text_gives_nothing r dead) o t s }

live_reads : (A : Answers) (r : SourceReader) (x : Taken) (t : SourceReader) → Reads A r x t → LiveReads A r x t
live_reads A r x t (reads.here x1 r1 t1 s) = live.here x1 r1 t1 (live_step A r1 (Some x1) t1 s)
live_reads A r x t (reads.later x1 r1 s1 t1 s more) = live.later x1 r1 s1 t1 (live_step A r1 None s1 s) (live_reads A s1 x1 t1 more)

gives_live : (A : Answers) (e : Expander SourceReader) (o : Outcome) (f : Expander SourceReader) → Gives A e o f → GivesLive A e o f
gives_live A e o f g = record {
  taken = g.taken;
  emits = emits (source_reading A) (LiveReads A) (live_reads A) A e g.taken f g.emits;
  is = g.is;
}

-- a run where what comes next comes so too
run_of : (C D : Comings) → ((e : Expander SourceReader) (o : Outcome) (f : Expander SourceReader) → C e o f → D e o f)
    → (rules : Rules) (e : Expander SourceReader) (calls : List Call) (replies : List Reply) → Runs C rules e calls replies → Runs D rules e calls replies
run_of C D comes rules e asked replies (run.done e1 r n) = run.done e1 r n
run_of C D comes rules e asked replies (run.added name content tokens e1 later rest r t more n) =
    run.added name content tokens e1 later rest r t (run_of C D comes rules _ later rest more) n
run_of C D comes rules e asked replies (run.refused name content fault e1 later rest r t more n) =
    run.refused name content fault e1 later rest r t (run_of C D comes rules e1 later rest more) n
run_of C D comes rules e asked replies (run.included text e1 later rest r f more n) =
    run.included text e1 later rest r f (run_of C D comes rules _ later rest more) n
run_of C D comes rules e asked replies (run.too_deep text e1 later rest r f more n) =
    run.too_deep text e1 later rest r f (run_of C D comes rules e1 later rest more) n
run_of C D comes rules e asked replies (run.given o e1 f later rest r c n more s) =
    run.given o e1 f later rest r (comes e1 o f c) n (run_of C D comes rules f later rest more) s
run_of C D comes rules e asked replies (run.failed fault e1 f later r c n) = run.failed fault e1 f later r (comes e1 (outcome.Fault fault) f c) n

pub runs_are_live : (A : Answers) → RunsAreLive A
runs_are_live A = run_of (by_rules A) (GivesLive A) (gives_live A)
