-- How calls of a preprocessor have led from the start of a source to where it is. No contract of a public call looks
-- into this.
use Rattle.std.specs.Prelude.{◌≡◌, ℕ, List, Option}
use Rattle.pp_macros.specs.LexerErrors.{lexer_errors_by}
use Rattle.pp_model.specs.Run.{Call, items_by}
use Rattle.pp_rs.specs.Comes.{start_by}
use Rattle.pp_rs.specs.Kept.{Preprocessing, Stands, errors_left, rules_of}
use Rattle.pp_rs.specs.declared.rules.Rules.{Rules}
use Rattle.pp_c.specs.Preprocessed.{Given}
use Rattle.pp_c.specs.inner.Making.{Made}

-- the preprocessor began at the source, and these calls with these answers were made
pub record Reached (rules : Rules) (source : List ℕ) (calls : List Call) (answers : List (Option Given))
    (new : Preprocessing) : Type 0 where
  pub begun : Preprocessing
  pub stands : Stands begun (start_by rules (items_by rules source))
  pub errors : errors_left begun ≡ lexer_errors_by rules source
  pub rules_are : rules_of begun ≡ rules
  pub made : Made begun calls answers new
