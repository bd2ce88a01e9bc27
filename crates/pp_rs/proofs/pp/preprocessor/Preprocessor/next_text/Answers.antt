use Rattle.pp_directives.specs.WordTokens.{word_token}
use Rattle.pp_rs.specs.Kept.{is_spent}
use Rattle.pp_rs.proofs.runs.NextWordLemmas.{never_both, refused_next, word_comes}
use Rattle.pp_rs.proofs.runs.PassedLemmas.{passed_nothing}
use Rattle.pp_rs.proofs.pp.preprocessor.Preprocessor.next_text.Goals as goal

pub next_word-requires : goal.next_word-requires
next_word-requires c = c.is_in_text.ensures.reads c.if-not-is_in_text.false

pub returns-then-not-is_in_text-clause-gives : goal.returns-then-not-is_in_text-clause-gives
returns-then-not-is_in_text-clause-gives c = rw c.is_in_text.ensures.same (passed_nothing _)

-- a word
pub returns-in-Ok-Some-clause-gives : goal.returns-in-Ok-Some-clause-gives
unfolding is_spent
returns-in-Ok-Some-clause-gives c =
    let fresh = rw c.is_in_text.ensures.same at (c.is_in_text.ensures.reads c.if-not-is_in_text.false).unspent in
    let word = rw (c.is_in_text.ensures.same, c.in-Ok-Some.field-0-is) at (c.in-Ok-Some.ensures {u = tt}).gives in
    word_comes c.args.self.now c.next_word.new.self c.word_item.new.self (word_token c.in-Ok-Some.word) c.word_item.result fresh
    word.next c.word_item.ensures.token c.word_item.ensures.refused

pub returns-in-Ok-Some-clause-spent : goal.returns-in-Ok-Some-clause-spent
unfolding is_spent
returns-in-Ok-Some-clause-spent c = λ spent.
    let fresh = rw c.is_in_text.ensures.same at (c.is_in_text.ensures.reads c.if-not-is_in_text.false).unspent in
    never_both _ fresh spent

-- no word
pub returns-in-Ok-None-clause-gives : goal.returns-in-Ok-None-clause-gives
returns-in-Ok-None-clause-gives c =
    (rw (c.is_in_text.ensures.same, c.in-Ok-None.field-0-is) at (c.in-Ok-None.ensures {u = tt}).gives).passed

pub returns-in-Ok-None-clause-spent : goal.returns-in-Ok-None-clause-spent
unfolding is_spent
returns-in-Ok-None-clause-spent c = λ spent.
    let fresh = rw c.is_in_text.ensures.same at (c.is_in_text.ensures.reads c.if-not-is_in_text.false).unspent in
    never_both _ fresh spent

-- no memory to open a macro
pub returns-in-Err-clause-gives : goal.returns-in-Err-clause-gives
unfolding is_spent
returns-in-Err-clause-gives c =
    let fresh = rw c.is_in_text.ensures.same at (c.is_in_text.ensures.reads c.if-not-is_in_text.false).unspent in
    let refused = rw c.is_in_text.ensures.same at (c.in-Err.ensures {u = tt}) in
    rw c.out_of_memory.ensures (refused_next c.args.self.now c.next_word.new.self fresh refused.spent refused.some_left refused.rules)

pub returns-in-Err-clause-spent : goal.returns-in-Err-clause-spent
unfolding is_spent
returns-in-Err-clause-spent c = λ spent.
    let fresh = rw c.is_in_text.ensures.same at (c.is_in_text.ensures.reads c.if-not-is_in_text.false).unspent in
    never_both _ fresh spent
