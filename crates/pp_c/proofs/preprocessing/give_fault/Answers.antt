use Rattle.std.proofs.Common.{◌≡◌, ◌∷◌, [], ◌+◌, length, arith}
use Rattle.pp_rs.specs.declared.token.PreprocessorError.TheVariants.{UnexpectedToken}
use Rattle.pp_c.proofs.HeldLemmas.{length-token_entries}
use Rattle.pp_c.proofs.TakingLemmas.{takes_more}
use Rattle.pp_c.specs.Entries.{in_32_bits}
use Rattle.pp_c.specs.Tokens.{token_entries, error_entry, place_entry}
use Rattle.pp_c.proofs.preprocessing.give_fault.Goals as goal

pub returns-in-UnexpectedToken : goal.returns-in-UnexpectedToken
returns-in-UnexpectedToken c =
    let carried = token_entries c.args.location c.in-UnexpectedToken.value in
    let n : in_32_bits (c.saturating_add.result + 1) ≡ in_32_bits (1 + length carried) =
    omega (arith, c.saturating_add.ensures, c.count-held.ensures, length-token_entries c.args.location c.in-UnexpectedToken.value c.tokens_of.result.now c.tokens_of.ensures.held) in
    rw c.in-UnexpectedToken.is (rw (← n) (takes_more c.args.output.now c.give_error.new.output c.give_value.new.output
    (error_entry c.args.location (in_32_bits (c.saturating_add.result + 1)) (UnexpectedToken c.in-UnexpectedToken.value) ∷ place_entry c.args.place ∷ []) carried
    (omega arith) (omega arith) (rw c.in-UnexpectedToken.is at c.give_error.ensures) c.give_value.ensures))
