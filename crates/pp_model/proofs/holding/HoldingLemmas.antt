-- What holds of tokens and lines, in the entries of a list and in what is spliced into it.
use Rattle.std.proofs.Common.{◌≡◌, ℕ, zero, suc, false, List, [], ◌∷◌, refl, Option, Some, None}
use Rattle.std.specs.Prelude.{⊤, IfOk, Result, Ok, Err, Bool, true, ◌&&◌, ◌==◌, unwrap_or, slice_get, if◌then◌else◌}
use Rattle.std.specs.List.{AllByRecursion as Each}
use Rattle.pp_lexer.specs.declared.token.Integer.{Integer as IntegerLiteral}
use Rattle.pp_lexer.specs.declared.token.Location.{Location}
use Rattle.pp_lexer.specs.declared.token.Token.{Token}
use Rattle.pp_lexer.specs.declared.token.TokenValue.TheVariants.{Integer}
use Rattle.pp_model.specs.declared.place.Place.{Place}
use Rattle.pp_model.specs.Places.{place_of}
use Rattle.pp_model.specs.Names.{Name, is_identifier, line_name}
use Rattle.pp_model.specs.Definitions.{Definition, Definitions}
use Rattle.pp_model.specs.SpliceList.{after_marks, outermost_line, parameter_of, replacement, body_before, macro_before, outermost_call}
use Rattle.pp_model.specs.inner.SpliceList.{followed_by}
use Rattle.pp_model.specs.Painting.{taken_among}
use Rattle.pp_model.specs.Taking.{line_number, shown_token, shown_outcome}
use Rattle.pp_model.specs.Calls.{Pieces, is_comma, nesting_after, cut_before, pieces, arguments_of}
use Rattle.pp_model.specs.Emitting.{first_before}
use Rattle.pp_model.specs.declared.read.Read.{Read}
use Rattle.pp_model.proofs.taking.NumberingLemmas.{IsLineLiteral}
use Rattle.pp_model.specs.declared.read.Taken.{Taken}
use Rattle.pp_model.specs.declared.read.Taken.TheVariants as taken
use Rattle.pp_model.specs.declared.splice.Entry.{Entry}
use Rattle.pp_model.specs.declared.splice.Entry.TheVariants.{Plain, End}
use Rattle.pp_model.specs.declared.splice.CallPlace.{CallPlace}

-- a line's number as a token
abbrev pub number_at : Location → IntegerLiteral → Token
number_at place number = record { value = Integer number; location = place }

-- a property of tokens and one of lines: a token that has it stands on such a line, and the number of such a line is such a token
pub record AreClosed (Q : Token → Type 0) (L : ℕ → Type 0) : Type 0 where
  pub line : (token : Token) → Q token → L token.location.line
  pub number : (place : Location) (number : IntegerLiteral) → L place.line → IsLineLiteral number → Q (number_at place number)

-- the body of each definition has it
abbrev pub HoldInBodies : (Token → Type 0) → Definitions → Type 0
HoldInBodies Q definitions = (name : Name) (definition : Definition) → definitions name ≡ Some definition → Each Q definition.body

-- a token has it, painted or not
abbrev pub HoldsOfRead : (Token → Type 0) → Read → Type 0
HoldsOfRead Q read = Q read.token

abbrev pub HoldsOfTaken : (Token → Type 0) → Taken → Type 0
HoldsOfTaken Q (taken.Token read) = Q read.token
HoldsOfTaken Q _ = ⊤

abbrev pub HoldsOfHeld : (Token → Type 0) → Option Taken → Type 0
HoldsOfHeld Q None = ⊤
HoldsOfHeld Q (Some o) = HoldsOfTaken Q o

-- so do the lists of a call's arguments
abbrev pub HoldInLists : (Token → Type 0) → List (List Read) → Type 0
HoldInLists Q lists = Each (λ tokens. Each (HoldsOfRead Q) tokens) lists

-- one more has it, before a list whose elements have it
pub more_holds : {X E : Type 0} (P : X → Type 0) (x : X) (rest : Result (List X) E) → P x → IfOk rest (Each P) → IfOk (first_before x rest) (Each P)
more_holds P x (Ok rest) q h = (q, h)
more_holds P x (Err fault) q h = tt

module _ (Q : Token → Type 0) (L : ℕ → Type 0) where
  -- an entry has it: a token, or the line of an end mark
  abbrev pub HoldsOfEntry : Entry → Type 0
  HoldsOfEntry (Plain read) = Q read.token
  HoldsOfEntry (End mark) = L mark.call.line

  abbrev pub HoldInList : List Entry → Type 0
  HoldInList entries = Each HoldsOfEntry entries

  pub after_marks_hold : (entries : List Entry) → HoldInList entries → HoldInList (after_marks entries)
  after_marks_hold [] all = tt
  after_marks_hold (End mark ∷ entries) all = after_marks_hold entries all.1
  after_marks_hold (Plain token ∷ entries) all = all

  outermost_call_holds : (entries : List Entry) (call : CallPlace) → HoldInList entries → L call.line → L (unwrap_or (outermost_call entries) call).line
  outermost_call_holds [] call all h = h
  outermost_call_holds (End mark ∷ entries) call all h = outermost_call_holds entries mark.call all.1 all.0
  outermost_call_holds (Plain token ∷ entries) call all h = outermost_call_holds entries call all.1 h

  pub outermost_holds : (entries : List Entry) (line : ℕ) → HoldInList entries → L line → L (unwrap_or (outermost_line entries) line)
  outermost_holds [] line all h = h
  outermost_holds (End mark ∷ entries) line all h = outermost_call_holds entries mark.call all.1 all.0
  outermost_holds (Plain token ∷ entries) line all h = outermost_holds entries line all.1 h

  pub followed_hold : (tokens : List Read) (entries : List Entry) → Each (HoldsOfRead Q) tokens → HoldInList entries → HoldInList (followed_by tokens entries)
  followed_hold [] entries all h = h
  followed_hold (token ∷ tokens) entries all h = (all.0, followed_hold tokens entries all.1 h)

  argument_holds : (arguments : List (List Read)) (k : ℕ) → HoldInLists Q arguments
      → Each (HoldsOfRead Q) (unwrap_or (slice_get arguments k) [])
  argument_holds [] k all = tt
  argument_holds (argument ∷ arguments) zero all = all.0
  argument_holds (argument ∷ arguments) (suc k) all = argument_holds arguments k all.1

  replacement_holds : (arguments : List (List Read)) (text : ℕ) (token : Token) (k : Option ℕ) (entries : List Entry)
      → HoldInLists Q arguments → Q token → HoldInList entries → HoldInList (replacement arguments text token k entries)
  replacement_holds arguments text token None entries all q h = (q, h)
  replacement_holds arguments text token (Some k) entries all q h = followed_hold (unwrap_or (slice_get arguments k) []) entries (argument_holds arguments k all) h

  replaced_holds : (parameters : List Name) (arguments : List (List Read)) (text : ℕ) (body : List Token) (entries : List Entry)
      → HoldInLists Q arguments → Each Q body → HoldInList entries → HoldInList (body_before parameters arguments text body entries)
  replaced_holds parameters arguments text [] entries all q h = h
  replaced_holds parameters arguments text (token ∷ body) entries all q h =
      replacement_holds arguments text token (parameter_of parameters token.value) (body_before parameters arguments text body entries) all q.0
      (replaced_holds parameters arguments text body entries all q.1 h)

  -- a macro's replacement has it where its body, its arguments and its line have it
  pub spliced_holds : (name : Name) (definition : Definition) (call : CallPlace) (arguments : List (List Read)) (entries : List Entry)
      → Each Q definition.body → L call.line → HoldInLists Q arguments → HoldInList entries
      → HoldInList (macro_before name definition call arguments entries)
  spliced_holds name definition call arguments entries body l all h =
      replaced_holds definition.parameters arguments definition.text definition.body (End (record { name = name; call = call }) ∷ entries) all body (l, h)

  cut_holds : (parts : Bool) (token : Read) (cut : Pieces) → Q token.token → Each (HoldsOfRead Q) cut.first
      → HoldInLists Q cut.others
      → Each (HoldsOfRead Q) (cut_before parts token cut).first × HoldInLists Q (cut_before parts token cut).others
  cut_holds true token cut q first others = (tt, (first, others))
  cut_holds false token cut q first others = ((q, first), others)

  pieces_hold : (n : ℕ) (tokens : List Read) → Each (HoldsOfRead Q) tokens
      → Each (HoldsOfRead Q) (pieces n tokens).first × HoldInLists Q (pieces n tokens).others
  pieces_hold n [] all = (tt, tt)
  pieces_hold n (token ∷ tokens) all =
      let later = pieces_hold (nesting_after n token.token.value) tokens all.1 in
      cut_holds (is_comma token.token.value && (n == 0)) token (pieces (nesting_after n token.token.value) tokens) all.0 later.0 later.1

  -- the arguments of a call have it where the tokens between its parentheses have it
  pub arguments_hold : (tokens : List Read) → Each (HoldsOfRead Q) tokens → HoldInLists Q (arguments_of tokens)
  arguments_hold tokens all =
      let cut = pieces_hold 0 tokens all in
      (cut.0, cut.1)

  module _ (closed : AreClosed Q L) (shown_line : ℕ → Option IntegerLiteral)
      (shown : (line : ℕ) (number : IntegerLiteral) → shown_line line ≡ Some number → IsLineLiteral number) where
    number_holds : (place : Place) (line : ℕ) (found : Option IntegerLiteral) → L place.location.line → shown_line line ≡ found
        → HoldsOfTaken Q (line_number place found)
    number_holds place line None here e = tt
    number_holds place line (Some number) here e = closed.number place.location number here (shown line number e)

    -- what is taken has it where the token and the rest of the list have it
    pub taken_holds : (after : List Entry) (token : Read) → HoldInList after → Q token.token → HoldsOfTaken Q (shown_token shown_line after token)
    taken_holds after token all q = go (is_identifier line_name token.token.value) refl
      where
        line : ℕ
        line = unwrap_or (outermost_line after) token.token.location.line

        go : (b : Bool) → is_identifier line_name token.token.value ≡ b
            → HoldsOfTaken Q (if b then line_number (place_of token) (shown_line line) else taken.Token token)
        go true e = number_holds (place_of token) line (shown_line line) (closed.line token.token q) refl
        go false e = q

    pub read_holds : (x : Taken) → HoldsOfTaken Q x → HoldsOfTaken Q (shown_outcome shown_line x)
    read_holds (taken.Token token) q = taken_holds [] token tt q
    read_holds _ q = tt

  -- paint changes nothing of it
  pub painted_holds : (names : List Name) (x : Taken) → HoldsOfTaken Q x → HoldsOfTaken Q (taken_among names x)
  painted_holds names (taken.Token token) q = q
  painted_holds names _ q = tt
