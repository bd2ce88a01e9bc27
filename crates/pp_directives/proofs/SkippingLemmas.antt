-- What is left of a directive's line after a fault is skipped.
use Rattle.std.proofs.Common.{◌≡◌, ◌∙◌, ◌≤◌, ℕ, Bool, true, false, if◌then◌else◌, List, length, drop, ap, sym, subst, arith, length-drop, Result, Ok, Err}
use Rattle.std.specs.Prelude.{MatchBool, ℤ}
use Rattle.pp_lexer.specs.Lexed.{Seen}
use Rattle.pp_lexer.specs.declared.rules.Rules.{Rules}
use Rattle.pp_lexer.specs.declared.token.Location.{Location}
use Rattle.pp_lexer.specs.declared.token.Token.{Token}
use Rattle.pp_model.specs.Places.{Fault, PlacedFault, placed, unasked, unplaced}
use Rattle.pp_model.specs.Lines.{line_length}
use Rattle.pp_model.specs.Moves.{Effect, gives, gives_item, asks, fails, ends, passes, defines, undefines, tests, decides, renumbers}
use Rattle.pp_macros.specs.Halting.{exit_of, placed_halt_of}
use Rattle.pp_macros.specs.Item.{PlacedStep}
use Rattle.pp_macros.specs.declared.halt.Halt.{Halt}
use Rattle.pp_macros.specs.declared.halt.Halt.TheVariants as halt
use Rattle.pp_macros.specs.declared.halt.PlacedHalt.{PlacedHalt}
use Rattle.pp_macros.specs.declared.halt.PlacedHalt.TheVariants as placed_halt
use Rattle.pp_macros.specs.inner.Faults.{LineLeft, IsUndefined}
use Rattle.pp_macros.specs.inner.LineReading.{Meets}
use Rattle.pp_macros.specs.inner.OpenBlocks.{facts_among, is_live_among}
use Rattle.pp_macros.specs.inner.SourceMoves.{Note}
use Rattle.pp_macros.specs.inner.Source.{Source, offset_from, unreported_of}
use Rattle.pp_macros.specs.inner.Unreported.{Unreported, Reports, IsMet, IsMetOrPassed}
use Rattle.pp_directives.specs.inner.Skipping.{IsSkipped, SkipsRest}
use Rattle.pp_directives.specs.inner.SourceActs.{LineAct, HasLeft, FailsWith, Stops, DoesAct, SkipsAfter, GivesDirective, StepsDirective, word_act}
use Rattle.pp_directives.specs.inner.DirectiveHalts.{placed_at, result_at, shown, unplaced_halt}
use Rattle.pp_directives.specs.declared.given.Given.{Given}
use Rattle.pp_directives.specs.declared.directive_halt.DirectiveHalt.{DirectiveHalt}
use Rattle.pp_directives.specs.declared.directive_halt.DirectiveHalt.TheVariants as directive_halt
use Rattle.pp_directives.proofs.FurtherLemmas.{further_then, line_passed}
use Rattle.pp_directives.proofs.PassedErrorsLemmas.{met_or_passed, met_then_passed}

fewer_by : (over : Bool) (old : List Seen) → length (if over then old else drop (line_length old) old) ≤ length old
fewer_by true old = omega arith
fewer_by false old = omega (arith, length-drop (line_length old) old)

-- the rest of a line is skipped after some of its items
skipped_keeps : (n : ℕ) (left : LineLeft) (old mid new : Source) → old.over ≡ false → n ≤ line_length old.rest → HasLeft n left old mid → IsSkipped mid new
    → HasLeft (line_length old.rest) left old new
skipped_keeps n left old mid new begun within kept skipped =
    let same = skipped.others in
    record {
      rules = ap (λ (s : Source). s.rules) same ∙ kept.rules;
      text = ap (λ (s : Source). s.text) same ∙ kept.text;
      earlier = ap (λ (s : Source). s.earlier) same ∙ kept.earlier;
      around = ap (λ (s : Source). s.around) same ∙ kept.around;
      contents = ap (λ (s : Source). s.contents) same ∙ kept.contents;
      has_text = ap (λ (s : Source). s.has_text) same ∙ kept.has_text;
      rest = skipped.line.rest ∙ line_passed n old.over old.rest mid.over mid.rest begun within kept.rest kept.further;
      further = further_then old.over mid.over new.over old.rest mid.rest new.rest kept.further skipped.line.further;
      fewer = omega (arith, kept.fewer, ap length skipped.line.rest, fewer_by mid.over mid.rest, ap (λ (s : Source). length s.blocks) same);
      blocks = ap (λ (s : Source). s.blocks) same ∙ kept.blocks;
      definitions = subst (IsUndefined left.undefined old.definitions) (sym (ap (λ (s : Source). s.definitions) same)) kept.definitions;
      line_offset = ap (λ (s : Source). s.line_offset) same ∙ kept.line_offset;
      has_directive = ap (λ (s : Source). s.has_directive) same ∙ kept.has_directive;
      dead_for_good = ap (λ (s : Source). s.dead_for_good) same ∙ kept.dead_for_good;
      spent = ap (λ (s : Source). s.spent) same ∙ kept.spent;
    }

-- how many items of a line are gone then, if the rules say that the rest of it is skipped
abbrev pub taken_by : Bool → ℕ → List Seen → ℕ
taken_by skips taken rest = if skips then line_length rest else taken

pub rest_keeps : (n : ℕ) (left : LineLeft) (old mid new : Source) → old.over ≡ false → n ≤ line_length old.rest → HasLeft n left old mid → SkipsRest mid new
    → HasLeft (taken_by old.rules.passes_dead_errors n old.rest) left old new
rest_keeps n left old mid new begun within kept skips = go old.rules.passes_dead_errors
    (subst (λ (by : Rules). MatchBool by.passes_dead_errors (IsSkipped mid new) (new ≡ mid)) kept.rules skips)
  where
    go : (passes : Bool) → MatchBool passes (IsSkipped mid new) (new ≡ mid) → HasLeft (taken_by passes n old.rest) left old new
    go true skipped = skipped_keeps n left old mid new begun within kept skipped
    go false same = subst (HasLeft n left old) (sym same) kept

-- what a fault says of the source, whatever its effect is
module _ {R : Type 0} (old : Source) (fault : PlacedFault) (P : Source → Type 0) (goes : (offset : ℤ) → P (record old { line_offset = offset }) → R) where
  fails_give : (effect : Effect) → FailsWith effect old fault P → R
  fails_give (gives token) h = absurd h
  fails_give (gives_item item word) h = absurd h
  fails_give (asks line) h = absurd h
  fails_give (fails wanted) h = goes old.line_offset h.1
  fails_give ends h = absurd h
  fails_give passes h = absurd h
  fails_give (defines named) h = goes old.line_offset h.1
  fails_give (undefines name) h = absurd h
  fails_give (tests asked name) h = absurd h
  fails_give (decides word tokens) (found, condition, is, p) = goes old.line_offset p
  fails_give (renumbers word tokens) (found, number, line, first, is, p) = goes (offset_from old word number) p

module _ (old : Source) (fault : PlacedFault) (P Q : Source → Type 0)
    (goes : (offset : ℤ) → P (record old { line_offset = offset }) → Q (record old { line_offset = offset })) where
  fails_map : (effect : Effect) → FailsWith effect old fault P → FailsWith effect old fault Q
  fails_map (gives token) h = absurd h
  fails_map (gives_item item word) h = absurd h
  fails_map (asks line) h = absurd h
  fails_map (fails wanted) h = (h.0, goes old.line_offset h.1)
  fails_map ends h = absurd h
  fails_map passes h = absurd h
  fails_map (defines named) h = (h.0, goes old.line_offset h.1)
  fails_map (undefines name) h = absurd h
  fails_map (tests asked name) h = absurd h
  fails_map (decides word tokens) (found, condition, is, p) = (found, condition, is, goes old.line_offset p)
  fails_map (renumbers word tokens) (found, number, line, first, is, p) = (found, number, line, first, is, goes (offset_from old word number) p)

pub rest_passed : (fault : Fault) (old mid new : Source) → mid.rules ≡ old.rules → IsMet fault (unreported_of old) (unreported_of mid) → SkipsRest mid new
    → IsMetOrPassed old.rules.passes_dead_errors fault (unreported_of old) (unreported_of new)
rest_passed fault old mid new rules met skips = go old.rules.passes_dead_errors
    (subst (λ (by : Rules). MatchBool by.passes_dead_errors (IsSkipped mid new) (new ≡ mid)) rules skips)
  where
    go : (passes : Bool) → MatchBool passes (IsSkipped mid new) (new ≡ mid) → IsMetOrPassed passes fault (unreported_of old) (unreported_of new)
    go true skipped =
        met_then_passed fault skipped.errors.passed (unreported_of old) (unreported_of mid) (unreported_of new) met skipped.errors.read skipped.errors.later
    go false same = rw same (met_or_passed false fault (unreported_of old) (unreported_of mid) met)

-- what a directive does is the same if what is left of its line is skipped, but for the items that are gone
abbrev pub skipping : Bool → List Seen → LineAct → LineAct
skipping skips rest act = record act { taken = taken_by skips act.taken rest }

pub skips_move : (note : Note) (act : LineAct) (given : Result Given DirectiveHalt) (old mid new : Source) → old.over ≡ false → act.taken ≤ line_length old.rest
    → DoesAct (shown old.text) note act old given mid → SkipsAfter (result_at old.text given) mid new
    → DoesAct (shown old.text) note (skipping old.rules.passes_dead_errors old.rest act) old given new
skips_move note act (Ok token) old mid new begun within does same = rw same does
skips_move note act (Err halt) old mid new begun within does skips = go (placed_at old.text halt) does skips
  where
    go : (h : PlacedHalt) → Stops act old h mid → SkipsAfter (Err h) mid new → Stops (skipping old.rules.passes_dead_errors old.rest act) old h new
    go (placed_halt.Fault fault) does skips =
        fails_map old fault (λ from. HasLeft act.taken act.left from mid)
        (λ from. HasLeft (taken_by old.rules.passes_dead_errors act.taken old.rest) act.left from new)
        (λ offset kept. rest_keeps act.taken act.left (record old { line_offset = offset }) mid new begun within kept skips) act.move.effect does
    go placed_halt.OutOfMemory does skips = tt

-- memory ran out while it was skipped
pub refused_directive : (hash : Location) (old new : Source) (halt : Halt) (step : PlacedStep Token) → Meets {A = Unit {0}} {B = Unit {0}} (λ t. t) (Err halt) (Ok tt)
    → step ≡ Err (exit_of (placed_halt_of old.text halt)) → StepsDirective hash old step new
refused_directive hash old new (halt.Fault fault) step only is = cc
refused_directive hash old new halt.OutOfMemory step only is = record {
  given = Err directive_halt.OutOfMemory;
  mid = old;
  gives = record { acts = tt; holds = tt; errors = tt };
  skips = tt;
  is = is;
}

-- a fault with its text is met as it is met without
pub placed_met : (passes : Bool) (text : ℕ) (h : DirectiveHalt) (fault : PlacedFault) (old new : Unreported) → placed_halt.Fault fault ≡ placed_at text h
    → Reports {A = Given} passes (Err (unplaced_halt h)) old new → IsMet (unplaced fault) old new
placed_met by_rules text (directive_halt.Fault line) fault old new e met = let same : fault ≡ placed text line = cc in rw same met
placed_met by_rules text (directive_halt.Expanded found) fault old new e met = let same : fault ≡ unasked found = cc in rw same met
placed_met by_rules text directive_halt.OutOfMemory fault old new e met = cc

-- so a directive with this fault keeps the rules, and meets the fault
pub directive_met : (hash : Location) (old mid : Source) (h : DirectiveHalt) (fault : PlacedFault) → placed_halt.Fault fault ≡ placed_at old.text h
    → GivesDirective hash old (Err h) mid → (mid.rules ≡ old.rules) × IsMet (unplaced fault) (unreported_of old) (unreported_of mid)
directive_met hash old mid h fault e given = (
  kept (word_act old.rules (is_live_among old.dead_for_good old.blocks) (facts_among old.blocks) hash old.rest) (placed_at old.text h) e given.acts,
  placed_met old.rules.passes_dead_errors old.text h fault (unreported_of old) (unreported_of mid) e given.errors,
)
  where
    kept : (act : LineAct) (placed : PlacedHalt) → placed_halt.Fault fault ≡ placed → Stops act old placed mid → mid.rules ≡ old.rules
    kept act (placed_halt.Fault found) e stops =
        fails_give {R = mid.rules ≡ old.rules} old found (λ from. HasLeft act.taken act.left from mid) (λ offset h. h.rules) act.move.effect stops
    kept act placed_halt.OutOfMemory e stops = cc

-- and memory didn't run out
pub directive_unspent : (hash : Location) (old mid : Source) (h : DirectiveHalt) (fault : PlacedFault) → placed_halt.Fault fault ≡ placed_at old.text h
    → GivesDirective hash old (Err h) mid → mid.spent ≡ false
directive_unspent hash old mid h fault e given =
    kept (word_act old.rules (is_live_among old.dead_for_good old.blocks) (facts_among old.blocks) hash old.rest) (placed_at old.text h) e given.acts
  where
    kept : (act : LineAct) (placed : PlacedHalt) → placed_halt.Fault fault ≡ placed → Stops act old placed mid → mid.spent ≡ false
    kept act (placed_halt.Fault found) e stops =
        fails_give {R = mid.spent ≡ false} old found (λ from. HasLeft act.taken act.left from mid) (λ offset h. h.spent) act.move.effect stops
    kept act placed_halt.OutOfMemory e stops = cc
