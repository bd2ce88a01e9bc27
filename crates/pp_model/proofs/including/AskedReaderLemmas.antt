-- Once an item asks for the text of an `#include` line, the reader is behind that line, in live text.
use Rattle.std.proofs.Common.{◌≡◌, ◌∙◌, ℕ, ◌+◌, ◌≤◌, ◌<◌, Bool, true, false, if◌then◌else◌, ◌&&◌, List, [], ◌∷◌, take, drop, length, refl, arith, Option, Some, None, ◌⊎◌, inl, inr}
use Rattle.std.specs.Prelude.{⊤, IfSome, not}
use Rattle.std.specs.List.{AllByRecursion as Each}
use Rattle.std.proofs.lemmas.Bool.{cases_lt}
use Rattle.std.proofs.lemmas.List.{drop_all, length-drop}
use Rattle.pp_lexer.specs.Lexed.{Seen}
use Rattle.pp_lexer.specs.declared.rules.Rules.{Rules}
use Rattle.pp_lexer.specs.declared.token.Location.{Location}
use Rattle.pp_lexer.specs.declared.token.Token.{Token}
use Rattle.pp_model.specs.Acts.{act, advanced_by, effect_on, end_by, facts_here, leave}
use Rattle.pp_model.specs.Blocks.{Truths, Block, blocks_at, innermost, is_live}
use Rattle.pp_model.specs.Calls.{Answers}
use Rattle.pp_model.specs.Emitting.{Emits, answers_at}
use Rattle.pp_model.specs.IncludeLaws.{are_whole_lines, IsAtLine, AskedIsAtLine}
use Rattle.pp_model.specs.Moves.{BlockFacts, Effect, gives, gives_item, asks, fails, ends, passes, defines, undefines, tests, decides, renumbers, failing, passing, directive_move, move_at, error_length}
use Rattle.pp_model.specs.Names.{Name}
use Rattle.pp_model.specs.Painting.{item_of, fault_item}
use Rattle.pp_model.specs.Places.{PlacedFault, fault_in}
use Rattle.pp_model.specs.Reading.{Expander}
use Rattle.pp_model.specs.Reads.{Does, Steps, here, later, source_reading}
use Rattle.pp_model.specs.Run.{items_by, start_by, with_added, with_included, without_end}
use Rattle.pp_model.specs.Sights.{sight_of}
use Rattle.pp_model.specs.SourceReader.{Suspended, SourceReader}
use Rattle.pp_model.specs.inner.Acts.{after_line}
use Rattle.pp_model.specs.declared.directive.Directive.TheVariants as d
use Rattle.pp_model.specs.declared.outcome.IncludeLine.{IncludeLine}
use Rattle.pp_model.specs.declared.outcome.Outcome.TheVariants as outcome
use Rattle.pp_model.specs.declared.read.Taken.{Taken}
use Rattle.pp_model.specs.declared.read.Taken.TheVariants as taken
use Rattle.pp_model.specs.declared.sight.Sight.{Sight}
use Rattle.pp_model.specs.declared.sight.Sight.TheVariants as sight
use Rattle.pp_model.specs.declared.step.Step.{Step}
use Rattle.pp_model.specs.declared.step.Step.TheVariants as step
use Rattle.pp_model.specs.declared.splice.CallPlace.{CallPlace}
use Rattle.pp_model.proofs.runs.QuietLemmas.{does_quiet}
use Rattle.pp_model.proofs.runs.RunLemmas.{each_state}
use Rattle.pp_model.proofs.source.ActsLemmas.{act_holds}
use Rattle.pp_model.proofs.source.AskingLemmas.{AsksNothing, IsTakenWith, IsTakenUnasked, IsAllowance, only_unasked, taken_with, item_with, ReadsWith, calls_unasked}
use Rattle.pp_model.proofs.source.ReadsLemmas.{HoldsAfter, holds_after}
use Rattle.pp_model.proofs.including.AskedLineLemmas.{behind_line, behind_within, behind_whole, behind_live}
use Rattle.pp_model.proofs.including.LineFrontLemmas.{line_from}
use Rattle.pp_model.proofs.including.LineStartLemmas.{begin_lines, items_begin_lines}
use Rattle.pp_model.proofs.including.MoveLemmas.{move_within}
use Rattle.pp_model.proofs.including.WholeLinesLemmas.{items_are_whole}

-- ---- what holds of each text that is read

-- A text is read up to a position in it: it is whole lines, in which directives begin lines, and each condition that was read is before
-- the position.
pub record IsRead (items : List Seen) (position : ℕ) (truths : Truths) : Type 0 where
  pub whole : are_whole_lines items ≡ true
  pub begins : begin_lines true items ≡ true
  pub within : position ≤ length items
  pub before : Each (λ truth. truth.position < position) truths

abbrev IsReadBefore : Suspended → Type 0
IsReadBefore f = IsRead f.items f.position f.truths

-- the reader's text is, and so is each text around it
abbrev pub ReadsTexts : SourceReader → Type 0
ReadsTexts r = IsRead r.items r.position r.truths × Each IsReadBefore r.around

-- what is before a position is before one further on
still_before : (p q : ℕ) (truths : Truths) → p ≤ q → Each (λ truth. truth.position < p) truths → Each (λ truth. truth.position < q) truths
still_before p q [] h all = tt
still_before p q (t ∷ truths) h all = (omega (arith, h, all.0), still_before p q truths h all.1)

-- at the start of a text
start_read : (rules : Rules) (text : List ℕ) → IsRead (items_by rules text) 0 []
start_read rules text = record { whole = items_are_whole rules text; begins = items_begin_lines rules text; within = omega arith; before = tt }

-- ---- a step

-- an effect that notes a condition takes an item or more
abbrev TakesIfNoted : Effect → ℕ → Type 0
TakesIfNoted (tests holds name) count = 1 ≤ count
TakesIfNoted (decides word tokens) count = 1 ≤ count
TakesIfNoted _ count = ⊤

-- a directive does
line_takes : (e : Effect) (count : ℕ) → TakesIfNoted e (2 + count)
line_takes (tests holds name) count = omega arith
line_takes (decides word tokens) count = omega arith
line_takes _ count = tt

-- and nothing else notes one
takes_if_noted : (rules : Rules) (live : Bool) (facts : Option BlockFacts) (shown : Sight) (rest : List Seen)
    → TakesIfNoted (move_at rules live facts shown rest).effect (move_at rules live facts shown rest).taken
takes_if_noted rules live facts (sight.Directive directive word) rest =
    let move = directive_move rules live facts directive word (drop 2 rest) in
    line_takes move.effect move.taken
takes_if_noted rules live facts (sight.Fault fault) rest = by (not live && rules.passes_dead_errors)
  where
    by : (passed : Bool) → TakesIfNoted (if passed then passing (error_length rest) else failing fault).effect
        (if passed then passing (error_length rest) else failing fault).taken
    by true = tt
    by false = tt
takes_if_noted rules true facts _ rest = tt
takes_if_noted rules false facts _ rest = tt

-- a move stays within the text
move_fits : (rules : Rules) (live : Bool) (facts : Option BlockFacts) (items : List Seen) (position : ℕ)
    → are_whole_lines items ≡ true → position ≤ length items
    → position + (move_at rules live facts (sight_of (drop position items)) (drop position items)).taken ≤ length items
move_fits rules live facts items position whole within = by (cases_lt position (length items))
  where
    by : (position < length items) ⊎ (length items ≤ position)
        → position + (move_at rules live facts (sight_of (drop position items)) (drop position items)).taken ≤ length items
    by (inl more) =
        let few : (move_at rules live facts (sight_of (drop position items)) (drop position items)).taken ≤ length (drop position items) =
        move_within rules live facts (drop position items) (line_from items position whole more) in
        omega (arith, few, length-drop position items)
    by (inr none) = rw (drop_all position items none) (omega arith)

module _ (r : SourceReader) (read : ReadsTexts r) where
  -- further on in the text
  further : (count : ℕ) → r.position + count ≤ length r.items → IsRead r.items (r.position + count) r.truths
  further count fits = record {
    whole = read.0.whole;
    begins = read.0.begins;
    within = fits;
    before = still_before r.position (r.position + count) r.truths (omega arith) read.0.before;
  }

  -- once a condition was read
  noted : (count : ℕ) (holds : Bool) → 1 ≤ count → r.position + count ≤ length r.items
      → IsRead r.items (r.position + count) (record { position = r.position; holds = holds } ∷ r.truths)
  noted count holds some fits = record {
    whole = read.0.whole;
    begins = read.0.begins;
    within = fits;
    before = (omega (arith, some), still_before r.position (r.position + count) r.truths (omega arith) read.0.before);
  }

  -- the end of a text
  left_keeps : (around : List Suspended) → Each IsReadBefore around → HoldsAfter ReadsTexts r (leave around r).step (leave around r).after
  left_keeps [] all = read
  left_keeps (outer ∷ around) all = all

  end_keeps : (block : Option Block) → HoldsAfter ReadsTexts r (end_by block r).step (end_by block r).after
  end_keeps (Some block) = read
  end_keeps None = left_keeps r.around read.1

  module _ (count : ℕ) (fits : r.position + count ≤ length r.items) where
    -- each effect of so many items
    effect_keeps : (e : Effect) → TakesIfNoted e count
        → HoldsAfter ReadsTexts r (effect_on e r (advanced_by count r)).step (effect_on e r (advanced_by count r)).after
    effect_keeps (gives token) takes = (further count fits, read.1)
    effect_keeps (gives_item value word) takes = (further count fits, read.1)
    effect_keeps (asks line) takes = (further count fits, read.1)
    effect_keeps (fails fault) takes = read
    effect_keeps ends takes = end_keeps (innermost (take r.unfinished (blocks_at r.items (length r.items))))
    effect_keeps passes takes = (further count fits, read.1)
    effect_keeps (defines named) takes = ((further count fits, read.1), (further count fits, read.1))
    effect_keeps (undefines name) takes = (further count fits, read.1)
    effect_keeps (tests holds name) takes = (noted count _ takes fits, read.1)
    effect_keeps (decides word tokens) takes = (read, λ holds. (noted count holds takes fits, read.1))
    effect_keeps (renumbers word tokens) takes = (read, λ n. (further count fits, read.1))

  -- each step keeps it
  act_keeps : HoldsAfter ReadsTexts r (act r).step (act r).after
  act_keeps =
      let live = is_live r.items r.truths r.position in
      let rest = drop r.position r.items in
      let move = move_at r.rules live (facts_here r) (sight_of rest) rest in
      effect_keeps move.taken (move_fits r.rules live (facts_here r) r.items r.position read.0.whole read.0.within)
      move.effect (takes_if_noted r.rules live (facts_here r) (sight_of rest) rest)

  -- ---- a step that asks

  -- behind the line of an `#include` the reader is at a line
  behind_include : is_live r.items r.truths r.position ≡ true → (word : Location) → sight_of (drop r.position r.items) ≡ sight.Directive d.Include word
      → IsAtLine (after_line r)
  behind_include live word there =
      let n = r.position in
      let further_on : n ≤ behind_line r.items n d.Include word there = omega arith in
      record {
        within = behind_within r.items n d.Include word there;
        begins_line = behind_whole r.items n d.Include word there read.0.whole;
        live = behind_live r.items n d.Include word there read.0.begins refl r.truths ∙ live;
        read_before = still_before n (behind_line r.items n d.Include word there) r.truths further_on read.0.before;
      }

-- where a step gives an `#include` line, the reader is at a line
abbrev AsksAtLine : Step → SourceReader → Type 0
AsksAtLine (step.Given (outcome.Include line)) after = IsAtLine after
AsksAtLine _ after = ⊤

-- the end of a text gives none
left_asks : (around : List Suspended) (r : SourceReader) → AsksAtLine (leave around r).step (leave around r).after
left_asks [] r = tt
left_asks (outer ∷ around) r = tt

end_asks : (block : Option Block) (r : SourceReader) → AsksAtLine (end_by block r).step (end_by block r).after
end_asks (Some block) r = tt
end_asks None r = left_asks r.around r

-- what stands in the text
act_asks : (r : SourceReader) → ReadsTexts r → AsksAtLine (act r).step (act r).after
act_asks r read =
    act_holds (λ acted. AsksAtLine acted.step acted.after) r (record {
      end = λ there. end_asks (innermost (take r.unfinished (blocks_at r.items (length r.items)))) r;
      fault = λ found. tt;
      nothing = λ count some. tt;
      wanted = λ word tokens. tt;
      numbered = λ live word tokens. tt;
      asked = λ live word there. behind_include r read live word there;
      defined = λ live word named is. tt;
      changed = λ live name. tt;
      decision = λ live holds. tt;
      token = λ live shown there count some. tt;
    })

-- a fault asks for nothing, or the reader is at a line
abbrev pub AsksHere : SourceReader → PlacedFault → Type 0
AsksHere r fault = AsksNothing fault ⊎ IsAtLine r

-- so a call doesn't change that
asks_here : (r : SourceReader) → IsAllowance (AsksHere r)
asks_here r = record { unasked = λ fault none. inl none; in_call = in_call }
  where
    in_call : (around : Option CallPlace) (fault : PlacedFault) → AsksHere r fault → AsksHere r (fault_in around fault)
    in_call around fault (inl none) = inl (only_unasked.in_call around fault none)
    in_call around fault (inr there) = inr there

-- at a line each outcome may be given
given_at_line : (r : SourceReader) (x : Taken) → IsAtLine r → IsTakenWith (AsksHere r) x
given_at_line r (taken.Fault fault) there = inr there
given_at_line r _ there = tt

-- and if it asks for nothing, at any place
unasked_here : (r : SourceReader) (x : Option Taken) → IfSome x IsTakenUnasked → IfSome x (IsTakenWith (AsksHere r))
unasked_here r (Some x) none = taken_with (AsksHere r) (asks_here r) x none
unasked_here r None none = tt

module _ (A : Answers) where
  -- a step's fault is allowed
  does_asks : (r t : SourceReader) (x : Option Taken) (did : Step) (after : SourceReader) → AsksAtLine did after → Does A r did after x t
      → IfSome x (IsTakenWith (AsksHere t))
  does_asks r t x (step.Given (outcome.Include line)) after there d = rw (d.0, d.1) (inr there)
  does_asks r t x did after there d = unasked_here t x (does_quiet A r t x did after tt d)

  step_asks : (r t : SourceReader) (x : Option Taken) → Steps A r x t → ReadsTexts r → IfSome x (IsTakenWith (AsksHere t)) × ReadsTexts t
  step_asks r t x s read = (
    does_asks r t x (act r).step (act r).after (act_asks r read) s,
    holds_after A r x t ReadsTexts (act r).step (act r).after (act_keeps r read) s,
  )

  -- a reader that asks is at a line
  source_asks : ReadsWith (source_reading A) ReadsTexts AsksHere
  source_asks x r t (here x1 r1 t1 s) read = step_asks r t (Some x) s read
  source_asks x r t (later x1 r1 s t1 before more) read = source_asks x s t more (step_asks r s None before read).1

-- ---- a state of a run

-- what is held asks for nothing, or the reader is at a line
abbrev HoldsHere : Option Taken → SourceReader → Type 0
HoldsHere held r = IfSome held (IsTakenWith (AsksHere r))

-- and the texts are read
abbrev IsReading : Expander SourceReader → Type 0
IsReading e = HoldsHere e.held e.reader × ReadsTexts e.reader

-- what is held is as it may be at another reader, too
still_here : (r s : SourceReader) → (IsAtLine r → IsAtLine s) → (held : Option Taken) → HoldsHere held r → HoldsHere held s
still_here r s at (Some (taken.Fault fault)) (inl none) = inl none
still_here r s at (Some (taken.Fault fault)) (inr there) = inr (at there)
still_here r s at (Some _) there = tt
still_here r s at None there = tt

held_at_line : (r : SourceReader) (held : Option Taken) → IsAtLine r → HoldsHere held r
held_at_line r (Some x) there = given_at_line r x there
held_at_line r None there = tt

-- a definition that is added moves no reader
by_definition : (name : Name) (tokens : List Token) (e : Expander SourceReader) → IsReading e → IsReading (with_added name tokens e)
by_definition name tokens e h = (still_here e.reader (with_added name tokens e).reader again e.held h.0, h.1)
  where
    again : IsAtLine e.reader → IsAtLine (with_added name tokens e).reader
    again there = record { within = there.within; begins_line = there.begins_line; live = there.live; read_before = there.read_before }

-- at the start of an included text the reader is at a line
by_text : (text : List ℕ) (rules : Rules) (e : Expander SourceReader) → IsReading e → IsReading (with_included (items_by rules text) e)
by_text text rules e h = (
  held_at_line (with_included (items_by rules text) e).reader (without_end e.held)
      (record { within = omega arith; begins_line = refl; live = refl; read_before = tt }),
  (start_read rules text, h.1),
)

-- a fault that asks for nothing is no `#include` line
asked_line : (s : SourceReader) (line : IncludeLine) (fault : PlacedFault) (asked : Option Location) → asked ≡ None
    → outcome.Include line ≡ fault_item fault asked → IsAtLine s
asked_line s line fault None none e = cc
asked_line s line fault (Some rest) none e = cc

-- only a fault that asks is an `#include` line
asked_here : (s : SourceReader) (line : IncludeLine) (x : Taken) → outcome.Include line ≡ item_of x → IsTakenWith (AsksHere s) x → IsAtLine s
asked_here s line (taken.Token token) e there = cc
asked_here s line (taken.Fault fault) e (inl none) = asked_line s line fault fault.1.asks none e
asked_here s line (taken.Fault fault) e (inr there) = there
asked_here s line taken.End e there = cc

-- The reader that asked is behind the line of the `#include`.
pub asked_at_line : (level : ℕ) → AskedIsAtLine (answers_at level)
asked_at_line level rules source line e f reached given =
    asked_here f.reader line given.taken given.is (by_item given.taken e f given.emits state).0
  where
    A : Answers
    A = answers_at level

    by_item : (o : Taken) (e f : Expander SourceReader) → Emits (source_reading A) A e o f → IsReading e
        → IsTakenWith (AsksHere f.reader) o × IsReading f
    by_item = item_with (source_reading A) ReadsTexts AsksHere asks_here (source_asks A) A (calls_unasked level)

    state : IsReading e
    state =
        each_state A IsReading by_definition (λ o e f item h. (by_item o e f item h).1) true (λ may. by_text)
        (start_by rules (items_by rules source)) e reached (tt, (start_read rules source, tt))
