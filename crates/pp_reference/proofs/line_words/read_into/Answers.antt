use Rattle.std.proofs.Common.{◌∷◌, [], refl, arith}
use Rattle.std.specs.Prelude.{Ok, Err, Some, None}
use Rattle.pp_model.specs.Places.{place_of, place_in, fault_in}
use Rattle.pp_model.specs.Emitting.{answers_at}
use Rattle.pp_model.specs.LineWords.{word_before, word_of, ended, failed}
use Rattle.pp_model.specs.declared.word.Word.TheVariants.{Defined}
use Rattle.pp_model.proofs.values.WordLemmas.{after_words-before, after_words-end}
use Rattle.pp_reference.proofs.EmittedWordLemmas.{refused_from, plain_from, answered_from, faulty_from}
use Rattle.pp_reference.proofs.line_words.read_into.Goals as goal

pub returns-in-Fault-clause-words : goal.returns-in-Fault-clause-words
returns-in-Fault-clause-words c =
    rw (← after_words-end c.words.words.items (Some c.in-Fault.fault))
    (c.words.invariant.goes_on (record { words = []; ending = Some c.in-Fault.fault })
    (failed c.in-Fault.fault _ _ _ (rw c.in-Fault.is at c.in_ok-taken.ensures.emits.emits) refl))

pub returns-in-End-clause-words : goal.returns-in-End-clause-words
returns-in-End-clause-words c =
    rw (← after_words-end c.words.words.items None)
    (c.words.invariant.goes_on (record { words = []; ending = None }) (ended _ _ _ (rw c.in-End.is at c.in_ok-taken.ensures.emits.emits) refl))

pub returns-in-Refused-clause-words : goal.returns-in-Refused-clause-words
returns-in-Refused-clause-words c =
    let fault = fault_in c.in_ok-taken.field-0.call c.in-Refused.fault in
    rw (c.fault_in.ensures, ← after_words-end c.words.words.items (Some fault))
    (c.words.invariant.goes_on (record { words = []; ending = Some fault })
    (refused_from c.args.kind c.args.directive (answers_at c.args.levels) _ _ c.in_ok-taken.field-0 c.in-Token.read c.in-Token.is c.in_ok-taken.ensures.emits
    c.in-Refused.fault c.in-Refused.ensures.reads))

pub words-preserved-in-Continue-branch-3 : goal.words-preserved-in-Continue-branch-3
words-preserved-in-Continue-branch-3 c = record {
  goes_on = λ rest h.
      let word = word_of c.in_ok-taken.field-0.call c.in-Word.word in
      rw (c.in_ok-push-in-Word.ensures.items, c.of_read.ensures, ← after_words-before c.words.words.items word rest)
      (c.words.invariant.goes_on (word_before word rest)
      (plain_from c.args.kind c.args.directive (answers_at c.args.levels) _ _ c.in_ok-taken.field-0 c.in-Token.read c.in-Token.is c.in_ok-taken.ensures.emits
      c.in-Word.word rest c.in-Word.ensures.reads h));
  spent = omega arith;
}

pub words-preserved : goal.words-preserved
words-preserved c = record {
  goes_on = λ rest h.
      let place = place_in c.in_ok-taken.field-0.call (place_of c.in-Token.read) in
      rw (c.in_ok-push-in-Ok.ensures.items, c.in_call-place.ensures, c.place.ensures, ← after_words-before c.words.words.items (Defined place (Ok c.in-Ok.answer)) rest)
      (c.words.invariant.goes_on (word_before (Defined place (Ok c.in-Ok.answer)) rest)
      (answered_from c.args.kind c.args.directive (answers_at c.args.levels) _ _ c.in_ok-taken.field-0 c.in-Token.read c.in-Token.is c.in_ok-taken.ensures.emits
      c.in-Ok.answer _ rest c.in-Operator.ensures.reads (rw c.in-Ok.is at c.in_ok-answer-in-Operator.ensures.operand) h));
  spent = omega arith;
}

pub returns-in-Err-clause-words : goal.returns-in-Err-clause-words
returns-in-Err-clause-words c =
    rw (c.in_ok-push-in-Err.ensures.items, c.in_call-place.ensures, c.place.ensures)
    (c.words.invariant.goes_on (record { words = Defined (place_in c.in_ok-taken.field-0.call (place_of c.in-Token.read)) (Err c.in-Err.fault) ∷ []; ending = None })
    (faulty_from c.args.kind c.args.directive (answers_at c.args.levels) _ _ c.in_ok-taken.field-0 c.in-Token.read c.in-Token.is c.in_ok-taken.ensures.emits
    c.in-Err.fault _ c.in-Operator.ensures.reads (rw c.in-Err.is at c.in_ok-answer-in-Operator.ensures.operand)))
