-- A line on which each macro is replaced by a number or a punctuator: its words, one after another.
use Rattle.std.proofs.Common.{◌≡◌, ◌∙◌, ◌-◌, arith, pos, ℕ, Bool, true, false, List, [], ◌∷◌, ◌++◌, length, drop, map, refl, sym, ap, Some, None, Ok}
use Rattle.std.specs.Prelude.{Option, IfSome, is_some, not, if◌then◌else◌}
use Rattle.std.proofs.lemmas.Option.{slice_get_past}
use Rattle.std.proofs.lemmas.List.{map-append}
use Rattle.pp_expression.specs.Arithmetic.{is_zero}
use Rattle.pp_expression.specs.FirstFault.{Evaluates}
use Rattle.pp_expression.specs.declared.symbol.Symbol.{Symbol}
use Rattle.pp_expression.specs.declared.symbol.Symbol.TheVariants as symbol
use Rattle.pp_expression.specs.declared.symbol.Value.{Value}
use Rattle.pp_lexer.specs.declared.token.Token.{Token}
use Rattle.pp_lexer.specs.declared.token.TokenValue.{TokenValue}
use Rattle.pp_lexer.specs.declared.token.TokenValue.TheVariants.{Ident, Integer, Punct}
use Rattle.pp_model.specs.Calls.{is_left_paren, is_right_paren}
use Rattle.pp_model.specs.Definitions.{Definition}
use Rattle.pp_model.specs.Emitting.{Emits, itself, object, answers_at, expansion_limit, called_at, with_macro}
use Rattle.pp_model.specs.LineValues.{IsCondition, symbol_of, symbol_of_value}
use Rattle.pp_model.specs.LineWords.{LineWords, Words, Operand, reading, reading_of_value, name_in_value, word_before, word_of}
use Rattle.pp_model.specs.LineWords as line
use Rattle.pp_model.specs.Names.{Name, is_identifier, is_same_name, line_name, defined_name}
use Rattle.pp_model.specs.Painting.{is_one_of, read_in}
use Rattle.pp_model.specs.Places.{place_of}
use Rattle.pp_model.specs.Reading.{Expander, Listed, Opening, line_reading, opening, opening_of}
use Rattle.pp_model.specs.SpliceList.{after_marks, body_before, macro_before, parameter_of}
use Rattle.pp_model.specs.Taking.{Takes, listed, read}
use Rattle.pp_model.specs.declared.place.Place.{Place}
use Rattle.pp_model.specs.declared.read.Read.{Read}
use Rattle.pp_model.specs.declared.read.Taken.TheVariants as taken
use Rattle.pp_model.specs.declared.splice.CallPlace.{CallPlace}
use Rattle.pp_model.specs.declared.splice.Entry.{Entry}
use Rattle.pp_model.specs.declared.splice.Entry.TheVariants.{Plain, End}
use Rattle.pp_model.specs.declared.word.LineKind.TheVariants.{Condition}
use Rattle.pp_model.specs.declared.word.Word.{Word}
use Rattle.pp_model.specs.declared.word.Word.TheVariants.{Defined}
use Rattle.pp_model.specs.declared.numbering.Numbering.{Numbering}
use Rattle.pp_model.proofs.values.OperandCases.{name, in_parentheses}
use Rattle.pp_model.proofs.values.WordLemmas.{after_words, after_words-before, after_words-end, closes, closes_named}
use Rattle.pp_macros.specs.inner.Defined as definitions
use Rattle.pp_macros.specs.inner.Defined.{meaning_of}
use Rattle.pp_macros.proofs.taking.PaintedRunLemmas.{among_none}
use Rattle.pp_directives.specs.inner.LineReads.{LineTokens}
use Rattle.pp_directives.specs.inner.PlainConditions.{plain_symbol, IsFreeName, IsBody, rest_of_line, AreWords, ReadsWord, GivesWord, GivesOperand, AreSymbolsOf}

-- a number or a punctuator is no name
plain_is_no : (text : Name) (value : TokenValue) (found : Symbol) → plain_symbol value ≡ Some found → is_identifier text value ≡ false
plain_is_no text (Ident name) found is = cc
plain_is_no text _ found is = refl

plain_is_none_of : (names : List Name) (value : TokenValue) (found : Symbol) → plain_symbol value ≡ Some found → is_one_of names value ≡ false
plain_is_none_of names (Ident name) found is = cc
plain_is_none_of names _ found is = refl

plain_is_no_parameter : (parameters : List Name) (value : TokenValue) (found : Symbol) → plain_symbol value ≡ Some found → parameter_of parameters value ≡ None
plain_is_no_parameter parameters (Ident name) found is = cc
plain_is_no_parameter parameters _ found is = refl

plain_opens_none : (e : Expander Listed) (token : Read) (value : TokenValue) (found : Symbol) → plain_symbol value ≡ Some found → opening_of line_reading e token value ≡ None
plain_opens_none e token (Ident name) found is = cc
plain_opens_none e token _ found is = refl

plain_reads : (token : Read) (value : TokenValue) (found : Symbol) → plain_symbol value ≡ Some found → reading_of_value Condition token value ≡ line.word token
plain_reads token (Ident name) found is = cc
plain_reads token _ found is = refl

plain_is : (value : TokenValue) (found : Symbol) → plain_symbol value ≡ Some found → found ≡ symbol_of_value value
plain_is (Integer number) found is = cc
plain_is (Punct punct) found is = cc
plain_is _ found is = cc

-- so is a parenthesis
left_is_no : (text : Name) (value : TokenValue) → is_left_paren value ≡ true → is_identifier text value ≡ false
left_is_no text (Ident name) is = cc
left_is_no text _ is = refl

right_is_no : (text : Name) (value : TokenValue) → is_right_paren value ≡ true → is_identifier text value ≡ false
right_is_no text (Ident name) is = cc
right_is_no text _ is = refl

right_opens_none : (e : Expander Listed) (token : Read) (value : TokenValue) → is_right_paren value ≡ true → opening_of line_reading e token value ≡ None
right_opens_none e token (Ident name) is = cc
right_opens_none e token _ is = refl

-- a free name is a name
free_in : (n : Name) (value : TokenValue) → IsFreeName n value → name_in_value value ≡ Some n
free_in n value free = ap name_in_value free.0

free_is_no_line : (n : Name) (value : TokenValue) → IsFreeName n value → is_identifier line_name value ≡ false
free_is_no_line n value free = ap (is_identifier line_name) free.0 ∙ free.1

-- a body of one token
pub one_token : (body : List Token) (token : Token) → drop 0 body ≡ token ∷ drop 1 body → length body ≡ 1 → body ≡ token ∷ []
one_token [] token is one = cc
one_token (first ∷ []) token is one = is
one_token (first ∷ second ∷ rest) token is one = cc

-- it before an end mark
one_before : (parameters : List Name) (text : ℕ) (mark : List Entry) (body : List Token) (token : Token) (found : Symbol) → body ≡ token ∷ []
    → plain_symbol token.value ≡ Some found → body_before parameters [] text body mark ≡ Plain (read_in text token) ∷ mark
one_before parameters text mark body token found one is = rw (one, plain_is_no_parameter parameters token.value found is) refl

-- the name of a macro opens it
name_opens : (e : Expander Listed) (token : Read) (value : TokenValue) (n : Name) (definition : Definition) → token.painted ≡ false → value ≡ Ident n
    → is_same_name n defined_name ≡ false → e.reader.visible n ≡ Some definition
    → opening_of line_reading e token value ≡ Some (record { text = token.text; token = token.token; name = n; definition = definition })
name_opens e token value n definition bare is other meaning = rw (is, other, bare, meaning) refl

module _ (directive : Place) (numbering : Numbering) (defined : List definitions.Defined) where
  abbrev at : List Entry → List Token → Expander Listed
  at entries tokens = rest_of_line directive numbering defined entries tokens

  abbrev in_line : Token → Read
  in_line token = read_in directive.text token

  -- the next token is taken past end marks
  takes : (before : List Entry) (token : Token) (rest : List Token) → after_marks before ≡ [] → is_identifier line_name token.value ≡ false
      → Takes line_reading (at before (token ∷ rest)) (taken.Token (in_line token)) (at [] rest)
  takes before token rest passed apart = record {
    first = taken.Token (in_line token);
    fetches = read (taken.Token (in_line token)) (taken.Token (in_line token)) (at [] rest).reader (at before (token ∷ rest)) (at [] rest)
        refl passed (refl, refl) (rw apart refl) refl;
    paints = ap taken.Token (sym (among_none (in_line token)));
  }

  -- it is a word
  gives_read : (token : Token) (rest : List Token) (word : Read) (found : Symbol) → is_identifier line_name token.value ≡ false
      → opening line_reading (at [] rest) (taken.Token (in_line token)) ≡ None → reading Condition (in_line token) ≡ line.word word
      → found ≡ symbol_of_value word.token.value → ReadsWord directive numbering defined (token ∷ rest) found rest
  gives_read token rest word found apart none reads is = record {
    word = word_of None word;
    is = is;
    entries = [];
    passed = refl;
    goes_on = λ before more passed words.
        line.plain (in_line token) word (at before (token ∷ rest)) (at [] rest) more (word_before (word_of None word) more)
        (itself (taken.Token (in_line token)) (taken.Token (in_line token)) (at before (token ∷ rest)) (at [] rest)
        (takes before token rest passed apart) none refl) reads words refl;
  }

  -- a number or a punctuator
  reads_plain : (token : Token) (rest : List Token) (found : Symbol) → plain_symbol token.value ≡ Some found
      → ReadsWord directive numbering defined (token ∷ rest) found rest
  reads_plain token rest found is =
      gives_read token rest (in_line token) found (plain_is_no line_name token.value found is)
      (plain_opens_none (at [] rest) (in_line token) token.value found is) (plain_reads (in_line token) token.value found is)
      (plain_is token.value found is)

  -- the name of no macro
  reads_name : (n : Name) (token : Token) (rest : List Token) → IsFreeName n token.value → is_same_name n defined_name ≡ false
      → meaning_of defined n ≡ None → ReadsWord directive numbering defined (token ∷ rest) (symbol.Number 0) rest
  reads_name n token rest free other none =
      gives_read token rest (zero_of token) (symbol.Number 0) (free_is_no_line n token.value free)
      (rw (free.0, other, none) refl) (rw (free.0, other) refl) refl
    where
      zero_of : Token → Read
      zero_of token = record { token = record { value = Integer (record { value = 0; signed = true; width = pos 64 }); location = token.location }; text = directive.text; painted = false }

  -- a `defined` with its operand
  reads_defined : (n : Name) (token : Token) (rest left : List Token) (answer : Bool) → IsFreeName n token.value → is_same_name n defined_name ≡ true
      → Operand Condition directive (answers_at expansion_limit) (at [] rest) (Ok answer) (at [] left)
      → (found : Symbol) → found ≡ symbol_of (Defined directive (Ok answer)) → ReadsWord directive numbering defined (token ∷ rest) found left
  reads_defined n token rest left answer free same operand found is = record {
    word = Defined (place_of (in_line token)) (Ok answer);
    is = is;
    entries = [];
    passed = refl;
    goes_on = λ before more passed words.
        line.answered (in_line token) answer (at before (token ∷ rest)) (at [] rest) (at [] left) more
        (word_before (Defined (place_of (in_line token)) (Ok answer)) more)
        (itself (taken.Token (in_line token)) (taken.Token (in_line token)) (at before (token ∷ rest)) (at [] rest)
        (takes before token rest passed (free_is_no_line n token.value free)) (rw (free.0, same) refl) refl)
        (rw (free.0, same) refl) operand words refl;
  }

  -- the operand is a name
  operand_alone : (n : Name) (token : Token) (rest : List Token) (answer : Bool) → IsFreeName n token.value → answer ≡ is_some (meaning_of defined n)
      → Operand Condition directive (answers_at expansion_limit) (at [] (token ∷ rest)) (Ok answer) (at [] rest)
  operand_alone n token rest answer free is =
      name Condition directive (answers_at expansion_limit) (taken.Token (in_line token)) n (at [] (token ∷ rest)) (at [] rest) (Ok answer)
      (takes [] token rest refl (free_is_no_line n token.value free)) (free_in n token.value free) (ap Ok is)

  -- or a name in parentheses
  operand_inside : (n : Name) (left token right : Token) (rest : List Token) (answer : Bool) → is_left_paren left.value ≡ true → IsFreeName n token.value
      → is_right_paren right.value ≡ true → answer ≡ is_some (meaning_of defined n)
      → Operand Condition directive (answers_at expansion_limit) (at [] (left ∷ token ∷ right ∷ rest)) (Ok answer) (at [] rest)
  operand_inside n left token right rest answer opens free ends is =
      in_parentheses Condition directive (answers_at expansion_limit) (taken.Token (in_line left)) (at [] (left ∷ token ∷ right ∷ rest))
      (at [] (token ∷ right ∷ rest)) (at [] rest) (Ok answer)
      (takes [] left (token ∷ right ∷ rest) refl (left_is_no line_name left.value opens)) opens
      (closes_named Condition directive (answers_at expansion_limit) n (taken.Token (in_line token)) (at [] (token ∷ right ∷ rest))
      (at [] (right ∷ rest)) (at [] rest) (Ok answer)
      (takes [] token (right ∷ rest) refl (free_is_no_line n token.value free)) (free_in n token.value free)
      (closes Condition directive (answers_at expansion_limit) n (taken.Token (in_line right)) (at [] (right ∷ rest)) (at [] rest)
      (itself (taken.Token (in_line right)) (taken.Token (in_line right)) (at [] (right ∷ rest)) (at [] rest)
      (takes [] right rest refl (right_is_no line_name right.value ends)) (right_opens_none (at [] rest) (in_line right) right.value ends) refl)
      answer ends is))

  -- the name of a macro whose body is a number or a punctuator
  module _ (n : Name) (token : Token) (rest : List Token) (definition : Definition) (found : Symbol) (free : IsFreeName n token.value)
      (other : is_same_name n defined_name ≡ false) (meaning : meaning_of defined n ≡ Some definition) (is : IsBody definition found) where
    abbrev opened : Opening
    opened = record { text = directive.text; token = token; name = n; definition = definition }

    abbrev called : CallPlace
    called = called_at directive.text token token.location.line

    abbrev body : Read
    body = read_in definition.text is.token

    abbrev mark : List Entry
    mark = End (record { name = n; call = called }) ∷ []

    spliced : macro_before n definition called [] [] ≡ Plain body ∷ mark
    spliced = one_before definition.parameters definition.text mark definition.body is.token found is.body is.is

    opens : opening line_reading (at [] rest) (taken.Token (in_line token)) ≡ Some opened
    opens = name_opens (at [] rest) (in_line token) token.value n definition refl free.0 other meaning

    takes_body : Takes line_reading (with_macro opened token.location.line [] (at [] rest)) (taken.Token body) (at mark rest)
    takes_body = record {
      first = taken.Token body;
      fetches = listed (taken.Token body) body mark (with_macro opened token.location.line [] (at [] rest)) (at mark rest)
          refl (ap after_marks spliced) (rw (plain_is_no line_name is.token.value found is.is) refl) refl;
      paints = rw (plain_is_none_of (n ∷ []) is.token.value found is.is) refl;
    }

    emits_body : (before : List Entry) → after_marks before ≡ []
        → Emits line_reading (answers_at expansion_limit) (at before (token ∷ rest)) (taken.Token body) (at mark rest)
    emits_body before passed =
        object (taken.Token (in_line token)) (taken.Token body) opened (at before (token ∷ rest)) (at [] rest) (at mark rest)
        (takes before token rest passed (free_is_no_line n token.value free)) opens is.bare
        (itself (taken.Token body) (taken.Token body) (with_macro opened token.location.line [] (at [] rest)) (at mark rest)
        takes_body (plain_opens_none (at mark rest) body is.token.value found is.is) refl)

    pub reads_macro : ReadsWord directive numbering defined (token ∷ rest) found rest
    unfolding emits_body
    reads_macro = record {
      word = word_of (Some called) body;
      is = plain_is is.token.value found is.is;
      entries = mark;
      passed = refl;
      goes_on = λ before more passed words.
          line.plain body body (at before (token ∷ rest)) (at mark rest) more (word_before (word_of (Some called) body) more)
          (emits_body before passed) (plain_reads body is.token.value found is.is) words refl;
    }

-- the same on any line
pub gives_plain : (defined : List definitions.Defined) (token : Token) (rest : List Token) (found : Symbol) → plain_symbol token.value ≡ Some found
    → GivesWord defined (token ∷ rest) found rest
gives_plain defined token rest found is = λ directive numbering. reads_plain directive numbering defined token rest found is

pub gives_name : (defined : List definitions.Defined) (n : Name) (token : Token) (rest : List Token) → IsFreeName n token.value
    → is_same_name n defined_name ≡ false → meaning_of defined n ≡ None → GivesWord defined (token ∷ rest) (symbol.Number 0) rest
gives_name defined n token rest free other none = λ directive numbering. reads_name directive numbering defined n token rest free other none

pub gives_defined : (defined : List definitions.Defined) (n : Name) (token : Token) (rest left : List Token) (answer : Bool) → IsFreeName n token.value
    → is_same_name n defined_name ≡ true → GivesOperand defined rest answer left → (found : Symbol)
    → found ≡ symbol.Number (if answer then 1 else 0) → GivesWord defined (token ∷ rest) found left
gives_defined defined n token rest left answer free same operand found is = λ directive numbering.
    reads_defined directive numbering defined n token rest left answer free same (operand directive numbering) found is

pub gives_macro : (defined : List definitions.Defined) (n : Name) (token : Token) (rest : List Token) (definition : Definition) (found : Symbol)
    → IsFreeName n token.value → is_same_name n defined_name ≡ false → meaning_of defined n ≡ Some definition → IsBody definition found
    → GivesWord defined (token ∷ rest) found rest
gives_macro defined n token rest definition found free other meaning is = λ directive numbering.
    reads_macro directive numbering defined n token rest definition found free other meaning is

pub gives_body : (defined : List definitions.Defined) (n : Name) (token : Token) (rest : List Token) (definition : Definition) (o : Option Symbol)
    → IsFreeName n token.value → is_same_name n defined_name ≡ false → meaning_of defined n ≡ Some definition → IfSome o (IsBody definition)
    → IfSome o (λ found. GivesWord defined (token ∷ rest) found rest)
gives_body defined n token rest definition None free other meaning is = tt
gives_body defined n token rest definition (Some found) free other meaning is = gives_macro defined n token rest definition found free other meaning is

pub gives_operand : (defined : List definitions.Defined) (n : Name) (token : Token) (rest : List Token) (answer : Bool) → IsFreeName n token.value
    → answer ≡ is_some (meaning_of defined n) → GivesOperand defined (token ∷ rest) answer rest
gives_operand defined n token rest answer free is = λ directive numbering. operand_alone directive numbering defined n token rest answer free is

pub gives_inside : (defined : List definitions.Defined) (n : Name) (left token right : Token) (rest : List Token) (answer : Bool)
    → is_left_paren left.value ≡ true → IsFreeName n token.value → is_right_paren right.value ≡ true → answer ≡ is_some (meaning_of defined n)
    → GivesOperand defined (left ∷ token ∷ right ∷ rest) answer rest
gives_inside defined n left token right rest answer opens free ends is = λ directive numbering.
    operand_inside directive numbering defined n left token right rest answer opens free ends is

-- What the reading of a line has reached: the symbols of its words so far, after which those of the rest come.
pub record SymbolsOn (start : LineTokens) (numbering : Numbering) (defined : List definitions.Defined) (symbols : List Symbol) (rest : List Token)
    : Type 0 where
  pub words : List Word
  pub are : symbols ≡ map symbol_of words
  pub entries : List Entry
  pub passed : after_marks entries ≡ []
  pub goes_on : (more : Words) → AreWords start.directive numbering defined entries rest more
      → AreWords start.directive numbering defined [] start.tokens (after_words words more)

module _ (start : LineTokens) (numbering : Numbering) (defined : List definitions.Defined) where
  pub symbols_start : (symbols : List Symbol) (rest : List Token) → symbols ≡ [] → rest ≡ start.tokens → SymbolsOn start numbering defined symbols rest
  symbols_start symbols rest none all = rw (none, all) (record { words = []; are = refl; entries = []; passed = refl; goes_on = λ more h. h })

  pub symbols_more : (symbols more : List Symbol) (rest left : List Token) (found : Symbol) → SymbolsOn start numbering defined symbols rest
      → GivesWord defined rest found left → more ≡ symbols ++ found ∷ [] → SymbolsOn start numbering defined more left
  symbols_more symbols more rest left found on gives is =
      let word = gives start.directive numbering in
      record {
        words = on.words ++ word.word ∷ [];
        are = is ∙ rw (on.are, word.is) (sym (map-append symbol_of on.words (word.word ∷ [])));
        entries = word.entries;
        passed = word.passed;
        goes_on = λ others h. rw (← after_words-before on.words word.word others)
            (on.goes_on (word_before word.word others) (word.goes_on on.entries others on.passed h));
      }

  pub symbols_end : (symbols : List Symbol) (rest : List Token) → SymbolsOn start numbering defined symbols rest → rest ≡ []
      → AreSymbolsOf start numbering defined symbols
  symbols_end symbols rest on none = record {
    words = on.words;
    are = on.are;
    read = rw (← after_words-end on.words None)
        (on.goes_on nothing (line.ended (ended_at rest) (rest_of_line start.directive numbering defined [] []) nothing (ended_by rest none) refl));
  }
    where
      nothing : Words
      nothing = record { words = []; ending = None }

      ended_at : List Token → Expander Listed
      ended_at tokens = rest_of_line start.directive numbering defined on.entries tokens

      ended_by : (tokens : List Token) → tokens ≡ [] → Emits line_reading (answers_at expansion_limit) (ended_at tokens) taken.End (rest_of_line start.directive numbering defined [] [])
      ended_by tokens none = rw none
          (itself taken.End taken.End (ended_at []) (rest_of_line start.directive numbering defined [] [])
          (record {
            first = taken.End;
            fetches = read taken.End taken.End (ended_at []).reader (ended_at []) (rest_of_line start.directive numbering defined [] [])
                refl on.passed (refl, refl) refl refl;
            paints = refl;
          }) refl refl)

  -- the value of the condition
  pub condition_holds : (symbols : List Symbol) (v : Value) (holds : Bool) → AreSymbolsOf start numbering defined symbols
      → Evaluates (record { symbols = symbols; ending = None }) (Ok v) → v.left ≡ 0 → holds ≡ not (is_zero v.value)
      → IsCondition (answers_at expansion_limit) start.directive start.tokens numbering (meaning_of defined) (Ok holds)
  condition_holds symbols v holds are evaluated whole is = record {
    words = record { words = are.words; ending = None };
    read = are.read;
    value = record {
      evaluation = Ok v;
      evaluated = rw (← are.are) evaluated;
      is = rw (is, whole, slice_get_past are.words (length are.words - 0) (omega arith)) refl;
    };
  }
