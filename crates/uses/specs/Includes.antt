-- A source whose `#include` lines are answered with files that have names (docs/RULES.md, Directives 16 and Runs 6).
use Rattle.std.specs.Prelude.{◌≡◌, ℕ, false, List, [], ◌∷◌, ◌++◌, Contains, Option, Some, String, string_bytes}
use Rattle.std.specs.Prelude.{slice_get, slice_range, option_map, Ok}
use Rattle.std.specs.BTreeMap.{BTreeMap, get_by_text}
use Rattle.pp_lexer.specs.declared.rules.Rules.{Rules}
use Rattle.pp_lexer.specs.declared.token.Location.{Location}
use Rattle.pp_lexer.specs.declared.token.Token.{Token}
use Rattle.pp_model.specs.ItemCall.{text_of}
use Rattle.pp_model.specs.Run.{items_by}
use Rattle.pp_model.specs.declared.outcome.IncludeLine.{IncludeLine}
use Rattle.pp_model.specs.declared.outcome.Outcome.TheVariants as outcome
use Rattle.pp_rs.specs.Comes.{State, Comes, start_by, with_included, is_full}
use Rattle.pp_rs.specs.Including.{IsTriedInclude}
use Rattle.pp_rs.specs.Kept.{Preprocessing, asked_line, item_text}

-- a name between the first two `"` (34) of a line
pub record IsQuotedOn (line name : List ℕ) : Type 0 where
  pub before : List ℕ
  pub after : List ℕ
  pub whole : line ≡ before ++ 34 ∷ (name ++ 34 ∷ after)
  pub opens : ¬ (Contains before 34)
  pub closes : ¬ (Contains name 34)

-- the name on the rest of a line of the text with this number
pub record IsNamed (read : List (List ℕ)) (number : ℕ) (rest : Location) (name : List ℕ) : Type 0 where
  pub text : List ℕ
  pub numbered : slice_get read number ≡ Some text
  pub quoted : IsQuotedOn (slice_range text rest.start rest.end) name

-- the texts of files, by their names
abbrev pub Files : Type 0
Files = List ℕ → Option (List ℕ)

abbrev pub file_of : {Y Z : Type 0} → BTreeMap (String Y) (String Z) → Files
file_of files name = option_map string_bytes (get_by_text files name)

-- What came of a source so far: the texts that were read, each at its number, which is 0 for the source; the tokens;
-- and the state of the run. Each `#include` line was answered with the file that it names.
pub data HasCome (files : Files) (rules : Rules) (source : List ℕ)
    : List (List ℕ) → List Token → State → Type 0 where
  nothing : HasCome files rules source (source ∷ []) [] (start_by rules (items_by rules source))
  token : (read : List (List ℕ)) (tokens : List Token) (one : Token) (state after : State)
      → HasCome files rules source read tokens state
      → Comes state (outcome.Token one) after
      → HasCome files rules source read (tokens ++ one ∷ []) after
  file : (read : List (List ℕ)) (tokens : List Token) (line : IncludeLine) (number : ℕ) (name text : List ℕ)
      (state after : State)
      → HasCome files rules source read tokens state
      → (comes : Comes state (outcome.Include line) after)
      → text_of comes.taken ≡ Some number
      → IsNamed read number line.rest name
      → files name ≡ Some text
      → is_full after ≡ false
      → HasCome files rules source (read ++ text ∷ []) tokens (with_included (items_by rules text) after)

-- all that comes of a source, up to its end, are these tokens
pub record IsWhole (files : Files) (rules : Rules) (source : List ℕ) (tokens : List Token) : Type 0 where
  pub read : List (List ℕ)
  pub state : State
  pub came : HasCome files rules source read tokens state
  pub after : State
  pub ends : Comes state outcome.End after

-- the name that the last item asks for
pub record IsAsked (pp : Preprocessing) (read : List (List ℕ)) (name : List ℕ) : Type 0 where
  pub rest : Location
  pub asks : asked_line pp ≡ Some rest
  pub named : IsNamed read (item_text pp) rest name

-- the file for which the last item asks is read next
pub record Includes (files : Files) (old : Preprocessing) (read : List (List ℕ)) (new : Preprocessing)
    (more : List (List ℕ)) : Type 0 where
  pub name : List ℕ
  pub asked : IsAsked old read name
  pub text : List ℕ
  pub found : files name ≡ Some text
  pub included : IsTriedInclude old text (Ok tt) new
  pub pushed : more ≡ read ++ text ∷ []
