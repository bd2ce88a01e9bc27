use Rattle.std.proofs.Common.{◌∙◌, ap, sym}
use Rattle.pp_model.specs.LineWords.{reading}
use Rattle.pp_directives.proofs.LineWordsLemmas.{words_start, words_end, words_fault, words_refused, words_plain, words_answered, words_faulty}
use Rattle.pp_directives.specs.inner.ReadingWords.{rest_of}
use Rattle.pp_directives.proofs.line_words.WordReader.read_words.Goals as goal

pub words-init : goal.words-init
words-init c = words_start _ _ _ _ _ _ _ _ c.requires c.in_ok-words.ensures.items

pub returns-in_default : goal.returns-in_default
returns-in_default c = words_end _ _ _ _ _ _ _ _ _ _ c.words.invariant c.next_item.new.line.expander.here (rest_of c.next_item.new.line) c.in-Ok.item c.new-in_default.result
    c.in-Ok.ensures.reads c.in_default.is c.new-in_default.ensures

pub returns-in-Err-Fault : goal.returns-in-Err-Fault
returns-in-Err-Fault c =
    words_fault _ _ _ _ _ _ _ _ _ _ c.words.invariant c.next_item.new.line.expander.here (rest_of c.next_item.new.line) c.in-Err-Fault.fault
    c.new.result (rw c.in-Err-Fault.field-0-is at c.in-Err-Fault.ensures.reads) c.new.ensures

pub returns-in-Refused : goal.returns-in-Refused
returns-in-Refused c = words_refused _ _ _ _ _ _ _ _ _ _ c.words.invariant c.next_item.new.line.expander.here (rest_of c.next_item.new.line) c.in-Ok.item c.in-Some.read
    c.in-Ok.ensures.reads c.in-Some.is c.in-Refused.fault c.new-in-Refused.result (ap (reading c.args.self.now.kind) (sym c.in-Some.read-is) ∙ c.in-Refused.ensures.reads)
    (rw c.fault_in.ensures at c.new-in-Refused.ensures)

pub words-preserved-in-Continue-branch-2 : goal.words-preserved-in-Continue-branch-2
words-preserved-in-Continue-branch-2 c =
    words_plain _ _ _ _ _ _ _ _ _ _ c.words.invariant c.next_item.new.line.expander.here (rest_of c.next_item.new.line) c.in-Ok.item c.in-Some.read
    c.in-Ok.ensures.reads c.in-Some.is c.in-Word.word _ (ap (reading c.args.self.now.kind) (sym c.in-Some.read-is) ∙ c.in-Word.ensures.reads) (rw c.of_read.ensures at c.in_ok-push-in-Word.ensures.items)

pub words-preserved : goal.words-preserved
words-preserved c = words_answered _ _ _ _ _ _ _ _ _ _ c.words.invariant c.next_item.new.line.expander.here (rest_of c.next_item.new.line) c.in-Ok.item c.in-Some.read
    c.in-Ok.ensures.reads c.in-Some.is c.in-Ok-operand.answer c.operand.new.line.expander.here (rest_of c.operand.new.line) _
    (ap (reading c.args.self.now.kind) (sym c.in-Some.read-is) ∙ c.in-Operator.ensures.reads) c.in-Ok-operand.ensures
    (rw (c.in_call-place.ensures, c.place.ensures, c.in-Some.read-is) at c.in_ok-push-in-Ok-operand.ensures.items)

pub returns-in-Err-Fault-operand : goal.returns-in-Err-Fault-operand
returns-in-Err-Fault-operand c =
    words_faulty _ _ _ _ _ _ _ _ _ _ c.words.invariant c.next_item.new.line.expander.here (rest_of c.next_item.new.line) c.in-Ok.item c.in-Some.read
    c.in-Ok.ensures.reads c.in-Some.is c.in-Err-Fault-operand.fault c.operand.new.line.expander.here (rest_of c.operand.new.line) _
    c.new-in-Err-Fault-operand.result (ap (reading c.args.self.now.kind) (sym c.in-Some.read-is) ∙ c.in-Operator.ensures.reads)
    (rw c.in-Err-Fault-operand.field-0-is at c.in-Err-Fault-operand.ensures)
    (rw (c.in_call-place.ensures, c.place.ensures, c.in-Some.read-is) at c.in_ok-push-in-Err-Fault-operand.ensures.items)
    c.new-in-Err-Fault-operand.ensures
