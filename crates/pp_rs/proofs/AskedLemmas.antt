-- By rules that ask for no texts an answer asks for none.
use Rattle.std.proofs.Common.{◌≡◌, ◌∙◌, true, false, refl, ap, sym, Option, Some, None}
use Rattle.pp_lexer.specs.Rules.{pp_rs}
use Rattle.pp_lexer.specs.declared.rules.Rules.{Rules}
use Rattle.pp_lexer.specs.declared.token.Location.{Location}
use Rattle.pp_macros.specs.Item.{Item}
use Rattle.pp_rs.specs.Preprocessing.{Asks}

-- pp-rs's rules ask for none
pub quiet_by_pp_rs : (rules : Rules) → rules ≡ pp_rs → rules.asks_includes ≡ false
quiet_by_pp_rs rules usual = ap (λ (r : Rules). r.asks_includes) usual

pub none_asked : (rules : Rules) (answer : Option Item) (asked : Option Location) → rules.asks_includes ≡ false → Asks rules answer asked → asked ≡ None
none_asked rules answer None quiet asks = refl
none_asked rules answer (Some rest) quiet asks = let bad : true ≡ false = sym asks.0 ∙ quiet in cc
