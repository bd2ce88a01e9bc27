-- What stands before a position, by what stands at the one before it.
use Rattle.std.proofs.Common.{◌≡◌, ℕ, zero, suc, ◌-◌, ◌<◌, ◌||◌, List, ap, arith}
use Rattle.pp_lexer.specs.Lexed.{Seen}
use Rattle.pp_model.specs.Blocks.{Truths}
use Rattle.pp_model.specs.SourceReader.{is_live_text, has_live_text_before}

pub text_before_step : (source : List Seen) (truths : Truths) (position : ℕ) → 0 < position
    → has_live_text_before source truths position ≡ (is_live_text source truths (position - 1) || has_live_text_before source truths (position - 1))
text_before_step source truths zero h = absurd (omega (arith, h))
text_before_step source truths (suc position) h = let same : position ≡ suc position - 1 =
    omega arith in ap (λ p. is_live_text source truths p || has_live_text_before source truths p) same
