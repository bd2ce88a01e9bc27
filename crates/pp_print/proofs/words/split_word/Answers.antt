use Rattle.std.proofs.Common.{lit<}
use Rattle.std.proofs.lemmas.Str.Pattern.{split_parts}
use Rattle.pp_print.proofs.SeparatorLemmas.{found, cut}
use Rattle.pp_print.proofs.words.split_word.Goals as goal

pub returns-clause-found : goal.returns-clause-found
returns-clause-found c = found _ _ _ (split_parts _ _ _ c.split_once.ensures.cases (lit< tt))

pub returns-clause-cut : goal.returns-clause-cut
returns-clause-cut c = cut _ _ _ (split_parts _ _ _ c.split_once.ensures.cases (lit< tt))
