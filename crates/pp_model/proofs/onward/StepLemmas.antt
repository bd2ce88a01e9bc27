-- A step of reading on has one outcome, and so has reading on, if the answers have one.
use Rattle.std.proofs.Common.{◌≡◌, ◌∙◌, ap, sym, ℕ, true, false, [], Option, Some, None}
use Rattle.std.specs.Prelude.{map, option_and_then}
use Rattle.std.specs.Result.{result_ok}
use Rattle.pp_lexer.specs.declared.token.Token.{Token}
use Rattle.pp_expression.specs.FirstFault.{Evaluates}
use Rattle.std.specs.Prelude.{List}
use Rattle.pp_model.specs.Definitions.{Definitions}
use Rattle.pp_model.specs.Painting.{read_in}
use Rattle.pp_model.specs.Reading.{reading_of}
use Rattle.pp_model.specs.Calls.{Answers}
use Rattle.pp_model.specs.LineValues.{line_of}
use Rattle.pp_model.specs.Numbering.{as_line_number}
use Rattle.pp_model.specs.SourceReader.{SourceReader}
use Rattle.pp_model.specs.Faults.{after_fault}
use Rattle.pp_model.specs.Onward.{dead_blocks, act_here, IsFirstNumber, numbered_by, IsPastFault, is_of_items, passed, faulty, ReadsOn, here, later, onward_reading}
use Rattle.pp_model.specs.ExpansionLaws.{OneReads, OneAnswer}
use Rattle.pp_model.specs.ToEndLaws.{OneStepOn}
use Rattle.pp_model.specs.declared.numbering.Numbering.{Numbering}
use Rattle.pp_model.specs.declared.place.Place.{Place}
use Rattle.pp_model.specs.declared.read.Taken.{Taken}
use Rattle.pp_model.specs.declared.step.Step.{Step}
use Rattle.pp_model.specs.declared.step.Step.TheVariants as step
use Rattle.pp_model.specs.declared.word.LineKind.TheVariants.{LineNumber}
use Rattle.pp_model.proofs.source.ReadsLemmas.{one_outcome}
use Rattle.pp_model.proofs.values.LineValueLemmas.{one_evaluation}
use Rattle.pp_model.proofs.values.LineWordsLemmas.{one_line}

-- no fault is of the items, and is not
split : (r : SourceReader) (x y : Option Taken) → x ≡ y → is_of_items r x ≡ false → is_of_items r y ≡ true → false ≡ true
split r x y same p q = sym p ∙ ap (is_of_items r) same ∙ q

module _ (A : Answers) (single : OneAnswer A) where
  one_first_number : (place : Place) (tokens : List Token) (numbering : Numbering) (definitions : Definitions) (x y : Option ℕ)
      → IsFirstNumber A place tokens numbering definitions x → IsFirstNumber A place tokens numbering definitions y → x ≡ y
  one_first_number place tokens numbering definitions x y a b =
      let words = one_line A single LineNumber place a.words b.words (reading_of (map (read_in place.text) tokens) numbering definitions []) a.read b.read in
      let there : Evaluates (line_of a.words) b.evaluation = rw words b.evaluated in
      let same = one_evaluation (line_of a.words) a.evaluation b.evaluation a.evaluated there in
      a.is ∙ ap (λ e. option_and_then (λ v. as_line_number v.value) (result_ok e)) same ∙ sym b.is

  one_past_fault : (n : ℕ) (r : SourceReader) (did : Step) (s t : SourceReader) → IsPastFault A n r did s → IsPastFault A n r did t → s ≡ t
  one_past_fault n r (step.LineNumber word tokens) s t a b =
      let number = one_first_number _ tokens _ r.definitions a.0 b.0 a.1 b.1 in
      a.2 ∙ ap (numbered_by (after_fault n r) word) number ∙ sym b.2
  one_past_fault n r step.Passed s t a b = a ∙ sym b
  one_past_fault n r (step.Given x) s t a b = a ∙ sym b
  one_past_fault n r (step.Defines named) s t a b = a ∙ sym b
  one_past_fault n r (step.Condition word tokens) s t a b = a ∙ sym b

  pub one_step_on : OneStepOn A
  one_step_on o x y n m (passed x1 s o1 n1 a p q) (passed y1 t o2 m1 b h k) =
      let same = one_outcome A single (act_here o).step (act_here o).after o.reader x y s t a b in
      (same.0, q ∙ ap (λ (r : SourceReader). record o { reader = r }) same.1 ∙ sym k)
  one_step_on o x y n m (passed x1 s o1 n1 a p q) (faulty t u y1 o2 m1 b h i k) =
      let bad = split o.reader x y (one_outcome A single (act_here o).step (act_here o).after o.reader x y s t a b).0 p h in cc
  one_step_on o x y n m (faulty t u x1 o2 n1 b h i k) (passed y1 s o1 m1 a p q) =
      let bad = split o.reader y x (one_outcome A single (act_here o).step (act_here o).after o.reader y x s t a b).0 p h in cc
  one_step_on o x y n m (faulty s u x1 o1 n1 a h i k) (faulty t v y1 o2 m1 b p q r) =
      let same = (one_outcome A single (act_here o).step (act_here o).after o.reader x y s t a b).0 in
      let past = one_past_fault (dead_blocks o) o.reader (act_here o).step u v i q in
      (same, k ∙ rw past (sym r))

  -- so reading on passes one outcome next
  pub onward_reads_one : OneReads (onward_reading A)
  onward_reads_one r x y s t (here x1 r1 s1 a) (here y1 r2 t1 b) =
      let same = one_step_on r (Some x) (Some y) s t a b in
      let given : x ≡ y = (let z = same.0 in cc) in
      (given, same.1)
  onward_reads_one r x y s t (here x1 r1 s1 a) (later y1 r2 v t1 b k) = let bad = (one_step_on r (Some x) None s v a b).0 in cc
  onward_reads_one r x y s t (later x1 r1 u s1 a h) (here y1 r2 t1 b) = let bad = (one_step_on r None (Some y) u t a b).0 in cc
  onward_reads_one r x y s t (later x1 r1 u s1 a h) (later y1 r2 v t1 b k) =
      let same = one_step_on r None None u v a b in
      let k1 : ReadsOn A u y t = rw same.1 k in
      onward_reads_one u x y s t h k1
