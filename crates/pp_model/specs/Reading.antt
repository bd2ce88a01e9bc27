-- Expanders, and what they ask of the reader after their list (docs/RULES.md, Expansion 1, 3 and 8).
use Rattle.std.specs.Prelude.{◌≡◌, ℕ, Bool, false, List, [], ◌++◌, ◌||◌, if◌then◌else◌, drop, slice_get, Option, Some}
use Rattle.std.specs.Prelude.{None, option_map}
use Rattle.std.specs.Option.{option_map_or}
use Rattle.pp_lexer.specs.declared.token.Integer.{Integer}
use Rattle.pp_lexer.specs.declared.token.Token.{Token}
use Rattle.pp_lexer.specs.declared.token.TokenValue.{TokenValue}
use Rattle.pp_lexer.specs.declared.token.TokenValue.TheVariants.{Ident}
use Rattle.pp_model.specs.Names.{Name, is_same_name, defined_name}
use Rattle.pp_model.specs.Definitions.{Definition, Definitions}
use Rattle.pp_model.specs.Numbering.{number_of}
use Rattle.pp_model.specs.SpliceList.{open_names}
use Rattle.pp_model.specs.declared.numbering.Numbering.{Numbering}
use Rattle.pp_model.specs.declared.read.Read.{Read}
use Rattle.pp_model.specs.declared.read.Taken.{Taken}
use Rattle.pp_model.specs.declared.read.Taken.TheVariants as taken
use Rattle.pp_model.specs.declared.splice.Entry.{Entry}

-- A kind of reader: what it gives next, which definitions it sees, which number `__LINE__` shows for a line, unless
-- that is out of range, how the lines of an argument are numbered there, and which names never open a macro in it.
pub record Reading (R : Type 0) : Type 1 where
  pub Reads : R → Taken → R → Type 0
  pub visible : R → Definitions
  pub shown_line : R → ℕ → Option Integer
  pub numbering : R → Numbering
  pub is_reserved : Name → Bool

-- An expander: an outcome that was found too early and is held, the list, the reader after it, and the names that are
-- open in the expanders around it.
pub record Expander (R : Type 0) : Type 0 where
  pub held : Option Taken
  pub list : List Entry
  pub reader : R
  pub hidden : List Name

-- the names that are open here or in an expander around
abbrev pub masked_names : {R : Type 0} → Expander R → List Name
masked_names expander = open_names expander.list ++ expander.hidden

-- a token of a text that opens a macro, with its name and its definition
pub record Opening : Type 0 where
  pub text : ℕ
  pub token : Token
  pub name : Name
  pub definition : Definition

abbrev pub opening_of : {R : Type 0} → Reading R → Expander R → Read → TokenValue → Option Opening
opening_of I expander read (Ident name) =
    if I.is_reserved name || read.painted then None
    else option_map
    (λ definition. record { text = read.text; token = read.token; name = name; definition = definition })
    (I.visible expander.reader name)
opening_of I expander read _ = None

-- The macro that a taken token opens, if it opens one: it is an identifier that is defined now, not painted, and not
-- reserved in the reader.
abbrev pub opening : {R : Type 0} → Reading R → Expander R → Taken → Option Opening
opening I expander (taken.Token read) = opening_of I expander read read.token.value
opening I expander _ = None

-- a list of tokens as a reader
pub record Listed : Type 0 where
  pub tokens : List Read
  pub numbering : Numbering
  pub visible : Definitions

-- a list of tokens, in which these names never open a macro: its tokens in order, and then the end
abbrev pub listed_reading : (Name → Bool) → Reading Listed
listed_reading is_reserved = record {
  Reads =
      λ old given new.
      (given ≡ option_map_or taken.Token (slice_get old.tokens 0) taken.End)
      × (new ≡ record old { tokens = drop 1 old.tokens });
  visible = λ reader. reader.visible;
  shown_line = λ reader line. Some (number_of reader.numbering line);
  numbering = λ reader. reader.numbering;
  is_reserved = is_reserved;
}

-- an argument of a call, read alone
abbrev pub argument_reading : Reading Listed
argument_reading = listed_reading (λ name. false)

-- the line of an `#if`, `#elif` or `#line`, where `defined` is an operator
abbrev pub line_reading : Reading Listed
line_reading = listed_reading (λ name. is_same_name name defined_name)

-- the start of reading these tokens, if these names are open around
abbrev pub reading_of : List Read → Numbering → Definitions → List Name → Expander Listed
reading_of tokens numbering visible hidden =
    let reader : Listed = record { tokens = tokens; numbering = numbering; visible = visible } in
    record { held = None; list = []; reader = reader; hidden = hidden }
