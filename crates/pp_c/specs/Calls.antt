-- The definitions and the texts that a caller in C passes, and the calls of the preprocessor that they stand for.
use Rattle.std.specs.Prelude.{ℕ, ◌+◌, ◌-◌, ◌^◌, ◌<◌, ◌≤◌, min, max, List, [], ◌∷◌, ◌++◌, length}
use Rattle.std.specs.Prelude.{replicate, slice_range, IsCharBoundary, Result, Ok, Err}
use Rattle.std.specs.Prelude.{Bool, ◌&&◌, nat_eq, if◌then◌else◌, MatchBool}
use Rattle.pp_model.specs.Places.{Fault}
use Rattle.pp_model.specs.Run.{Call, add_define, include, next, items_by, content_tokens}
use Rattle.pp_rs.specs.Location.{nowhere}
use Rattle.pp_rs.specs.Rules.{pp_rs}
use Rattle.pp_rs.specs.declared.rules.Rules.{Rules}
use Rattle.pp_rs.specs.declared.token.Location.{Location}
use Rattle.pp_rs.specs.declared.token.Token.{Token}
use Rattle.pp_c.specs.Numbers.{error_number}
use Rattle.pp_c.specs.declared.items.Definition.{Definition}

-- `count` bytes of the words, from a start
abbrev pub part_of : List ℕ → ℕ → ℕ → List ℕ
part_of words start count = slice_range words start (start + count)

abbrev pub name_in : List ℕ → Definition → List ℕ
name_in words definition = part_of words definition.name_start definition.name_length

abbrev pub content_in : List ℕ → Definition → List ℕ
content_in words definition = part_of words definition.content_start definition.content_length

-- `count` bytes from a start lie in the words, and cut no character of theirs
abbrev pub LiesIn : List ℕ → ℕ → ℕ → Type 0
LiesIn words start count = IsCharBoundary words start × IsCharBoundary words (start + count)

-- the name and the content lie in the words
pub record IsInWords (words : List ℕ) (definition : Definition) : Type 0 where
  pub name : LiesIn words definition.name_start definition.name_length
  pub content : LiesIn words definition.content_start definition.content_length

-- a name or a content doesn't
abbrev pub LiesOutside : List ℕ → Definition → Type 0
LiesOutside words definition = ¬ (IsInWords words definition)

-- the content has 2^32 - 1 bytes or more
abbrev pub HasLongContent : List ℕ → Definition → Type 0
HasLongContent words definition = 2 ^ 32 - 1 ≤ length (content_in words definition)

-- a definition that can be handed to the preprocessor
pub record Fits (words : List ℕ) (definition : Definition) : Type 0 where
  pub lies : IsInWords words definition
  pub short : length (content_in words definition) < 2 ^ 32 - 1

-- the definition stands for a text to include: its content. So it is if the call takes texts and its name begins at the
-- greatest number of 64 bits
abbrev pub is_text : Bool → Definition → Bool
is_text texts definition = texts && nat_eq definition.name_start (2 ^ 64 - 1)

-- a text lies in the words, or so do the name and the content of a definition
abbrev pub HasWords : Bool → List ℕ → Definition → Type 0
HasWords texts words definition =
    MatchBool (is_text texts definition)
    (LiesIn words definition.content_start definition.content_length)
    (IsInWords words definition)

-- a text or a definition doesn't
abbrev pub LacksWords : Bool → List ℕ → Definition → Type 0
LacksWords texts words definition = ¬ (HasWords texts words definition)

-- a text that can be handed to the preprocessor
pub record FitsAsText (words : List ℕ) (definition : Definition) : Type 0 where
  pub lies : LiesIn words definition.content_start definition.content_length
  pub short : length (content_in words definition) < 2 ^ 32 - 1

-- a text or a definition that can be
abbrev pub CanEnter : Bool → List ℕ → Definition → Type 0
CanEnter texts words definition =
    MatchBool (is_text texts definition) (FitsAsText words definition) (Fits words definition)

-- the call that adds the definition
abbrev pub adding : List ℕ → Definition → Call
adding words definition = add_define (name_in words definition) (content_in words definition)

-- the call that includes the text, or adds the definition
abbrev pub entering : Bool → List ℕ → Definition → Call
entering texts words definition =
    if is_text texts definition then include (content_in words definition) else adding words definition

-- The calls for definitions with these words, if `next` is called `all` times in the whole run, the last of which gives
-- the end if it is reached, and `made` times so far. Before a definition is added, `next` is called until as many items
-- were given as the definition's `after` says, or no call of `next` is left.
abbrev pub calls_from : Bool → List ℕ → ℕ → ℕ → List Definition → List Call
calls_from texts words all made [] = replicate (all - made) next
calls_from texts words all made (definition ∷ definitions) =
    replicate (min definition.after all - made) next ++
    entering texts words definition ∷ calls_from texts words all (max made (min definition.after all)) definitions

-- the definition with an error and its place written into it
abbrev pub with_answer : Definition → ℕ → Location → Definition
with_answer definition error place = record definition {
  error = error;
  start = place.start;
  end = place.end;
  line = place.line;
}

-- with the reply to its content: no error, or the first one
abbrev pub with_fault : Definition → Result (List Token) Fault → Definition
with_fault definition (Ok tokens) = with_answer definition 0 nowhere
with_fault definition (Err fault) = with_answer definition (error_number fault.0) fault.1

-- with the reply to its content by these rules
abbrev pub answered_by : Rules → List ℕ → Definition → Definition
answered_by rules words definition =
    with_fault definition (content_tokens (items_by rules (content_in words definition)))

-- the same by pp-rs's rules
abbrev pub answered : List ℕ → Definition → Definition
answered = answered_by pp_rs

-- with the reply to a text, which has no error, or to a definition
abbrev pub answered_in : Bool → Rules → List ℕ → Definition → Definition
answered_in texts rules words definition =
    if is_text texts definition then with_answer definition 0 nowhere else answered_by rules words definition
