-- By rules that ask for no texts, no state of a run gives an `#include` line.
use Rattle.std.proofs.Common.{◌≡◌, ◌∙◌, ℕ, pos, ◌-ℤ◌, true, false, List, [], ◌∷◌, take, length, refl, sym, Option, Some, None, inl, inr}
use Rattle.std.specs.Prelude.{⊤, IfSome, Result, Ok, Err}
use Rattle.pp_lexer.specs.declared.token.Location.{Location}
use Rattle.pp_lexer.specs.declared.token.Token.{Token}
use Rattle.pp_model.specs.Places.{PlacedFault}
use Rattle.pp_model.specs.Definitions.{Definition}
use Rattle.pp_model.specs.Painting.{taken_of, fault_item, item_of}
use Rattle.pp_model.specs.Reading.{Expander}
use Rattle.pp_model.specs.Calls.{Answers}
use Rattle.pp_model.specs.Sights.{sight_of}
use Rattle.pp_model.specs.Blocks.{Block, blocks_at, innermost, is_live}
use Rattle.pp_model.specs.SourceReader.{Suspended, SourceReader}
use Rattle.pp_model.specs.Moves.{Effect, gives, gives_item, asks, fails, ends, passes, defines, undefines, tests, decides, renumbers, move_at}
use Rattle.pp_model.specs.Acts.{Acted, leave, end_by, effect_on, advanced_by, decided, facts_here, act}
use Rattle.pp_model.specs.inner.Acts.{items_left}
use Rattle.pp_model.specs.Reads.{Defines, Evaluated, Does, Steps, here, later, source_reading, numbered_line}
use Rattle.pp_model.specs.ExistenceLaws.{Ends, last, first}
use Rattle.pp_model.specs.declared.definition.Named.{Named}
use Rattle.pp_model.specs.declared.outcome.Outcome.{Outcome}
use Rattle.pp_model.specs.declared.outcome.Outcome.TheVariants as outcome
use Rattle.pp_model.specs.declared.read.Taken.{Taken}
use Rattle.pp_model.specs.declared.read.Taken.TheVariants as taken
use Rattle.pp_model.specs.declared.step.Step.{Step}
use Rattle.pp_model.specs.declared.step.Step.TheVariants as step
use Rattle.pp_model.proofs.source.AskingLemmas.{IsTakenUnasked, HoldsUnasked, ReadsUnasked, AnswersUnasked, AsksBy, item_unasked, move_asks}
use Rattle.pp_model.proofs.source.ReadsLemmas.{HoldsAfter, holds_after}

-- it reads by rules that ask for no texts
abbrev pub IsQuietReader : SourceReader → Type 0
IsQuietReader r = r.rules.asks_includes ≡ false

-- the outcome is no `#include` line
abbrev pub NoInclude : Outcome → Type 0
NoInclude (outcome.Include line) = ⊥
NoInclude _ = ⊤

abbrev pub StepsQuietly : Step → Type 0
StepsQuietly (step.Given o) = NoInclude o
StepsQuietly _ = ⊤

abbrev ActsQuietly : Acted → Type 0
ActsQuietly acted = StepsQuietly acted.step × IsQuietReader acted.after

module _ (r : SourceReader) (quiet : IsQuietReader r) where
  left_quiet : (around : List Suspended) → ActsQuietly (leave around r)
  left_quiet [] = (tt, quiet)
  left_quiet (outer ∷ around) = (tt, quiet)

  end_quiet : (block : Option Block) → ActsQuietly (end_by block r)
  end_quiet (Some block) = (tt, quiet)
  end_quiet None = left_quiet r.around

  effect_quiet : (effect : Effect) (after : SourceReader) → AsksBy r.rules effect → IsQuietReader after → ActsQuietly (effect_on effect r after)
  effect_quiet (gives token) after by still = (tt, still)
  effect_quiet (gives_item value word) after by still = (tt, still)
  effect_quiet (asks line) after by still = let bad : true ≡ false = sym by ∙ quiet in cc
  effect_quiet (fails fault) after by still = (tt, quiet)
  effect_quiet ends after by still = end_quiet (innermost (take r.unfinished (blocks_at r.items (length r.items))))
  effect_quiet passes after by still = (tt, still)
  effect_quiet (defines named) after by still = (tt, still)
  effect_quiet (undefines name) after by still = (tt, still)
  effect_quiet (tests holds name) after by still = (tt, still)
  effect_quiet (decides word tokens) after by still = (tt, still)
  effect_quiet (renumbers word tokens) after by still = (tt, still)

  act_quiet : ActsQuietly (act r)
  act_quiet =
      let live = is_live r.items r.truths r.position in
      let move = move_at r.rules live (facts_here r) (sight_of (items_left r)) (items_left r) in
      effect_quiet move.effect (advanced_by move.taken r) (move_asks r.rules live (facts_here r) (sight_of (items_left r)) (items_left r)) quiet

  after_quiet : (did : Step) (after : SourceReader) → IsQuietReader after → HoldsAfter IsQuietReader r did after
  after_quiet (step.Defines named) after still = (still, still)
  after_quiet (step.Condition word tokens) after still = (quiet, λ holds. still)
  after_quiet (step.LineNumber word tokens) after still = (quiet, λ n. still)
  after_quiet _ after still = still

given_quiet : (text : ℕ) (o : Outcome) → NoInclude o → IsTakenUnasked (taken_of text o)
given_quiet text (outcome.Token token) none = tt
given_quiet text (outcome.Fault fault) none = refl
given_quiet text (outcome.Include line) none = absurd none
given_quiet text outcome.End none = tt

module _ (A : Answers) where
  module _ (r t : SourceReader) (o : Option Taken) where
    define_quiet : (named : Named) (old : Option Definition) (after : SourceReader) → Defines r.text named old after o t → IfSome o IsTakenUnasked
    define_quiet named None after d = rw d.0 tt
    define_quiet named (Some old) after (same, inl d) = rw d.1 tt
    define_quiet named (Some old) after (same, inr d) = rw d.1 refl

    line_quiet : {V : Type 0} (v : Result V PlacedFault) (next : V → SourceReader) → Evaluated v next r o t → IfSome o IsTakenUnasked
    line_quiet (Ok value) next d = rw d.0 tt
    line_quiet (Err fault) next d = rw d.0 refl

    -- a step that gives no `#include` line asks for nothing
    pub does_quiet : (did : Step) (after : SourceReader) → StepsQuietly did → Does A r did after o t → IfSome o IsTakenUnasked
    does_quiet step.Passed after none d = rw d.0 tt
    does_quiet (step.Given x) after none d = rw d.0 (given_quiet r.text x none)
    does_quiet (step.Defines named) after none d = define_quiet named (r.definitions named.name) after d
    does_quiet (step.Condition word tokens) after none d = line_quiet d.0 (λ holds. decided r.position holds after) d.2
    does_quiet (step.LineNumber word tokens) after none d =
        line_quiet d.0 (λ n. record after { line_offset = pos n -ℤ pos (numbered_line r.rules word.line) }) d.2

    step_quiet : Steps A r o t → IsQuietReader r → IfSome o IsTakenUnasked × IsQuietReader t
    step_quiet s quiet =
        let acts = act_quiet r quiet in (
          does_quiet (act r).step (act r).after acts.0 s,
          holds_after A r o t IsQuietReader (act r).step (act r).after (after_quiet r quiet (act r).step (act r).after acts.1) s,
        )

  -- a source that is read by such rules never asks
  pub source_unasked : ReadsUnasked (source_reading A) IsQuietReader
  source_unasked x r t (here x1 r1 t1 s) quiet = step_quiet r t (Some x) s quiet
  source_unasked x r t (later x1 r1 s t1 before more) quiet = source_unasked x s t more (step_quiet r s None before quiet).1

  fault_quiet : (fault : PlacedFault) (asked : Option Location) → asked ≡ None → NoInclude (fault_item fault asked)
  fault_quiet fault None e = tt
  fault_quiet fault (Some rest) e = cc

  item_quiet : (x : Taken) → IsTakenUnasked x → NoInclude (item_of x)
  item_quiet (taken.Token token) unasked = tt
  item_quiet (taken.Fault fault) unasked = fault_quiet fault fault.1.asks unasked
  item_quiet taken.End unasked = tt

  module _ (answers : AnswersUnasked A) where
    -- so no `#include` line comes after its tokens
    pub ends_quietly : (e : Expander SourceReader) (tokens : List Token) (o : Outcome) → Ends A e tokens o → HoldsUnasked e → IsQuietReader e.reader
        → NoInclude o
    ends_quietly e tokens o (last o1 ts e1 f g h p) held quiet =
        let given = item_unasked (source_reading A) IsQuietReader source_unasked A answers g.taken e f g.emits (held, quiet) in
        rw g.is (item_quiet g.taken given.0)
    ends_quietly e tokens o (first token o1 rest ts e1 f g more p) held quiet =
        let given = item_unasked (source_reading A) IsQuietReader source_unasked A answers g.taken e f g.emits (held, quiet) in
        ends_quietly f rest o more given.1.0 given.1.1
