use Rattle.pp_rs.proofs.runs.GivingLemmas.{took_token}
use Rattle.pp_rs.proofs.pp.giving.give_word.Goals as goal

pub returns-in-Identifier-clause-taken : goal.returns-in-Identifier-clause-taken
returns-in-Identifier-clause-taken g c = took_token _ _ _ _ _ _ c.of_word.result c.of_word.ensures.token c.of_word.ensures.origin c.take.ensures.taken

pub returns-in-Punct-clause-taken : goal.returns-in-Punct-clause-taken
returns-in-Punct-clause-taken g c = took_token _ _ _ _ _ _ c.of_word-in-Punct.result c.of_word-in-Punct.ensures.token c.of_word-in-Punct.ensures.origin c.take-in-Punct.ensures.taken

pub returns-in_default-clause-taken : goal.returns-in_default-clause-taken
returns-in_default-clause-taken g c = took_token _ _ _ _ _ _ c.of_word-in_default.result c.of_word-in_default.ensures.token c.of_word-in_default.ensures.origin c.take-in_default.ensures.taken
