-- Each token or line of a source has an outcome, also after faults, and reading on gives something next.
use Rattle.std.proofs.Common.{◌≡◌, ◌∙◌, sym, subst, ℕ, zero, suc, ◌<◌, Bool, true, false, List, [], ◌∷◌, drop, length, refl, arith, Option, Some, None}
use Rattle.std.specs.Prelude.{map, take, ◌+◌, option_and_then}
use Rattle.std.specs.Option.{option_map_or}
use Rattle.std.specs.Result.{result_ok}
use Rattle.pp_expression.specs.Answers.{◌>>=◌}
use Rattle.pp_lexer.specs.Lexed.{Seen}
use Rattle.pp_lexer.specs.declared.token.Location.{Location}
use Rattle.pp_lexer.specs.declared.token.Token.{Token}
use Rattle.pp_expression.proofs.AnOutcome.{an_outcome}
use Rattle.pp_model.specs.Places.{in_text}
use Rattle.pp_model.specs.Definitions.{Definitions, with_change}
use Rattle.pp_model.specs.Painting.{read_in}
use Rattle.pp_model.specs.Reading.{Expander, reading_of}
use Rattle.pp_model.specs.Calls.{Answers}
use Rattle.pp_model.specs.LineValues.{line_of}
use Rattle.pp_model.specs.Lines.{first_name}
use Rattle.pp_model.specs.DefineLines.{free_name}
use Rattle.pp_model.specs.Numbering.{as_line_number, list_numbering}
use Rattle.pp_model.specs.Blocks.{blocks_at, innermost, is_live}
use Rattle.pp_model.specs.Sights.{sight_of}
use Rattle.pp_model.specs.SourceReader.{SourceReader}
use Rattle.pp_model.specs.Acts.{perform}
use Rattle.pp_model.specs.Faults.{facts_past, move_past, definitions_left, after_fault}
use Rattle.pp_model.specs.Onward.{Onward, dead_blocks, act_on, act_here, IsFirstNumber, numbered_by, IsPastFault, dead_after, is_of_items, StepsOn, passed, faulty, here, later, onward_reading}
use Rattle.pp_model.specs.ExistenceLaws.{IsFinite, AnAnswer}
use Rattle.pp_model.specs.ToEndLaws.{AStepOn}
use Rattle.pp_model.specs.declared.definition.Placed.{Placed}
use Rattle.pp_model.specs.declared.directive.Directive.TheVariants as d
use Rattle.pp_model.specs.declared.numbering.Numbering.{Numbering}
use Rattle.pp_model.specs.declared.place.Place.{Place}
use Rattle.pp_model.specs.declared.read.Taken.{Taken}
use Rattle.pp_model.specs.declared.read.Taken.TheVariants as taken
use Rattle.pp_model.specs.declared.sight.Sight.{Sight}
use Rattle.pp_model.specs.declared.sight.Sight.TheVariants as sight
use Rattle.pp_model.specs.declared.step.Step.{Step}
use Rattle.pp_model.specs.declared.step.Step.TheVariants as step
use Rattle.pp_model.specs.declared.word.LineKind.TheVariants.{LineNumber}
use Rattle.pp_model.proofs.existence.Turns.{Given, GoesOn}
use Rattle.pp_model.proofs.existence.EveryExpander.{every}
use Rattle.pp_model.proofs.existence.DefinitionLemmas.{without_one}
use Rattle.pp_model.proofs.existence.LineLemmas.{a_line}
use Rattle.pp_model.proofs.existence.MoveLemmas.{stops, Moves, acts_move, end_moves, end_less, further_less, left}
use Rattle.pp_model.proofs.existence.SourceLemmas.{HasFinite, goes, Stepped, stepped_as}
use Rattle.pp_model.proofs.source.ActsLemmas.{sight_acts}

-- ---- what the items at the position do

-- Each act moves so, whatever block is the innermost.
act_on_moves : (n : ℕ) (r : SourceReader) (rest : List Seen) → drop r.position r.items ≡ rest → Moves r (act_on n rest r)
act_on_moves n r [] p = end_moves r _
act_on_moves n r (s ∷ rest) p =
    subst (λ items. Moves r (perform (move_past n r items) r)) p
    (sight_acts (Moves r) r (acts_move r) (is_live r.items r.truths r.position) refl (facts_past n r) (sight_of (drop r.position r.items)) refl)

act_on_less : (n : ℕ) (r : SourceReader) (rest : List Seen) → drop r.position r.items ≡ rest → stops (act_on n rest r).step ≡ false
    → left (act_on n rest r).after < left r
act_on_less n r [] p on = rw p (end_less r (innermost (drop n (take r.unfinished (blocks_at r.items (length r.items))))) 0 on)
act_on_less n r (s ∷ rest) p on = further_less r (act_on n (s ∷ rest) r).after (rw p (omega arith)) ((act_on_moves n r (s ∷ rest) p).further on)

-- ---- after a fault finitely many names are defined

definitions_finite : (live : Bool) (s : Sight) (r : SourceReader) → HasFinite r → IsFinite (definitions_left live s r)
definitions_finite true (sight.Directive d.Undef word) r f =
    of (result_ok (first_name word (drop (r.position + 2) r.items) >>= free_name r.rules))
  where
    of : (name : Option Placed) → IsFinite (option_map_or (λ first. with_change r.definitions first.name None) name r.definitions)
    of None = f
    of (Some first) = without_one r.definitions first.name f
definitions_finite live s r f = f

after_fault_finite : (n : ℕ) (r : SourceReader) → HasFinite r → HasFinite (after_fault n r)
after_fault_finite n r f = definitions_finite (is_live r.items r.truths r.position) (sight_of (drop r.position r.items)) r f

numbered_finite : (r : SourceReader) (word : Location) (number : Option ℕ) → HasFinite r → HasFinite (numbered_by r word number)
numbered_finite r word None f = f
numbered_finite r word (Some n) f = f

module _ (A : Answers) (answered : AnAnswer A) where
  a_first_number : (place : Place) (tokens : List Token) (numbering : Numbering) (definitions : Definitions) → IsFinite definitions
      → (number : Option ℕ) × IsFirstNumber A place tokens numbering definitions number
  a_first_number place tokens numbering definitions finite =
      let line = a_line A answered LineNumber place (reading_of (map (read_in place.text) tokens) numbering definitions []) finite in
      let found = an_outcome (line_of line.0) in (
        option_and_then (λ v. as_line_number v.value) (result_ok found.0),
        record { words = line.0; read = line.1; evaluation = found.0; evaluated = found.1; is = refl },
      )

  -- a reader after a fault, where finitely many names are defined
  past_fault : (n : ℕ) (r : SourceReader) (did : Step) → HasFinite r → (t : SourceReader) × IsPastFault A n r did t × HasFinite t
  past_fault n r (step.LineNumber word tokens) f =
      let number = a_first_number (in_text r.text word) tokens (list_numbering r.rules r.line_offset) r.definitions f in
      let t = numbered_by (after_fault n r) word number.0 in
      (t, (number.0, number.1, refl), numbered_finite (after_fault n r) word number.0 (after_fault_finite n r f))
  past_fault n r step.Passed f = (after_fault n r, refl, after_fault_finite n r f)
  past_fault n r (step.Given x) f = (after_fault n r, refl, after_fault_finite n r f)
  past_fault n r (step.Defines named) f = (after_fault n r, refl, after_fault_finite n r f)
  past_fault n r (step.Condition word tokens) f = (after_fault n r, refl, after_fault_finite n r f)

  -- ---- one token or line

  abbrev HasFiniteOn : Onward → Type 0
  HasFiniteOn o = HasFinite o.reader

  abbrev left_on : Onward → ℕ
  left_on o = left o.reader

  record SteppedOn (o : Onward) : Type 0 where
    outcome : Option Taken
    after : Onward
    steps : StepsOn A o outcome after
    finite : HasFiniteOn after
    falls : goes outcome ≡ true → left_on after < left_on o

  stepped_on : (o : Onward) → HasFiniteOn o → SteppedOn o
  stepped_on o f =
      let rest = drop o.reader.position o.reader.items in
      let s = stepped_as A answered o.reader (act_here o) (act_on_moves (dead_blocks o) o.reader rest refl) (act_on_less (dead_blocks o) o.reader rest refl) f in
      by s (is_of_items o.reader s.outcome) refl
    where
      fault_stops : (given : Option Taken) → is_of_items o.reader given ≡ true → goes given ≡ false
      fault_stops None h = cc
      fault_stops (Some (taken.Token read)) h = cc
      fault_stops (Some taken.End) h = cc
      fault_stops (Some (taken.Fault fault)) h = refl

      by : (s : Stepped A answered o.reader (act_here o)) (here : Bool) → is_of_items o.reader s.outcome ≡ here → SteppedOn o
      by s false h = record {
        outcome = s.outcome;
        after = record o { reader = s.after };
        steps = passed s.outcome s.after o (record o { reader = s.after }) s.does h refl;
        finite = s.finite;
        falls = s.falls;
      }
      by s true h =
          let past = past_fault (dead_blocks o) o.reader (act_here o).step f in
          let new : Onward = record { reader = past.0; dead = dead_after (dead_blocks o) o.reader o.dead } in
          record {
            outcome = s.outcome;
            after = new;
            steps = faulty s.after past.0 s.outcome o new s.does h past.1 refl;
            finite = past.2;
            falls = λ z. let bad : true ≡ false = sym z ∙ fault_stops s.outcome h in cc;
          }

  pub a_step_on : AStepOn A
  a_step_on o f = let s = stepped_on o f in (s.outcome, s.after, s.steps)

  -- ---- up to what is given next

  read_on : (fuel : ℕ) (o : Onward) → HasFiniteOn o → left_on o < fuel → Given (onward_reading A) HasFiniteOn left_on o
  read_on zero o f room = absurd (omega (arith, room))
  read_on (suc fuel) o f room =
      let s = stepped_on o f in
      go s s.outcome refl (λ less. read_on fuel s.after s.finite (omega (arith, less, room)))
    where
      go : (s : SteppedOn o) (x : Option Taken) → s.outcome ≡ x → (left_on s.after < left_on o → Given (onward_reading A) HasFiniteOn left_on s.after)
          → Given (onward_reading A) HasFiniteOn left_on o
      go s (Some x) p more = record {
        given = x;
        after = s.after;
        reads = here x o s.after (rw p at s.steps);
        fine = s.finite;
        falls = λ h. s.falls (rw p h);
      }
      go s None p more =
          let less = s.falls (rw p refl) in
          let rest = more less in
          record {
            given = rest.given;
            after = rest.after;
            reads = later rest.given o s.after rest.after (rw p at s.steps) rest.reads;
            fine = rest.fine;
            falls = λ h. omega (arith, rest.falls h, less);
          }

  onward_gives : (o : Onward) → HasFiniteOn o → Given (onward_reading A) HasFiniteOn left_on o
  onward_gives o f = read_on (suc (left_on o)) o f (omega arith)

  -- So every expander over a source that is read on goes on.
  pub every_onward : (e : Expander Onward) → HasFinite e.reader.reader → GoesOn (onward_reading A) A HasFiniteOn e
  every_onward = every (record { gives = onward_gives; finite = λ o finite. finite; answered = answered })
