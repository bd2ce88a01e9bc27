use Rattle.pp_rs.proofs.runs.GivingLemmas.{took_token}
use Rattle.pp_rs.proofs.pp.giving.give_token.Goals as goal

pub returns-in-Ident-clause-taken : goal.returns-in-Ident-clause-taken
returns-in-Ident-clause-taken g c = took_token _ _ _ _ _ _ c.of_token.result c.of_token.ensures.token c.of_token.ensures.origin c.take.ensures.taken

pub returns-in-Punct-clause-taken : goal.returns-in-Punct-clause-taken
returns-in-Punct-clause-taken g c = took_token _ _ _ _ _ _ c.of_token-in-Punct.result c.of_token-in-Punct.ensures.token c.of_token-in-Punct.ensures.origin c.take-in-Punct.ensures.taken

pub returns-in_default-clause-taken : goal.returns-in_default-clause-taken
returns-in_default-clause-taken g c = took_token _ _ _ _ _ _ c.of_token-in_default.result c.of_token-in_default.ensures.token c.of_token-in_default.ensures.origin c.take-in_default.ensures.taken
