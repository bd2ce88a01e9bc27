use Rattle.std.proofs.Common.{vec_len}
use Rattle.pp_macros.proofs.spares.drop_tokens.Given as goal

abbrev pub decreases-tokens : goal.decreases-tokens
decreases-tokens l = vec_len l.tokens
