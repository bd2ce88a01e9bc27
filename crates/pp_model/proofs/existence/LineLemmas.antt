-- A line whose value is needed has a list of words, no matter what is on it.
use Rattle.std.proofs.Common.{◌≡◌, Bool, true, false, [], ◌∷◌, refl, Option, Some, None}
use Rattle.std.specs.Prelude.{Result, Ok, Err, is_ok}
use Rattle.pp_model.specs.declared.place.Place.{Place}
use Rattle.pp_lexer.specs.declared.token.TokenValue.{TokenValue}
use Rattle.pp_model.specs.Places.{PlacedFault, place_of, place_in, fault_in}
use Rattle.pp_model.specs.SpliceList.{outermost_call}
use Rattle.pp_model.specs.ItemCall.{item_call}
use Rattle.pp_model.specs.declared.splice.CallPlace.{CallPlace}
use Rattle.pp_model.specs.Names.{Name, is_same_name, defined_name}
use Rattle.pp_model.specs.Reading.{Expander, Listed, line_reading}
use Rattle.pp_model.specs.Taking.{Takes}
use Rattle.pp_model.specs.Calls.{Answers, is_left_paren, is_right_paren}
use Rattle.pp_model.specs.Emitting.{Emits}
use Rattle.pp_model.specs.LineWords.{WordReading, operator, word, fault, reading, unwanted_part, name_in, has_value, is_defined, closed_by, InParentheses, Operand, Words, word_before, word_of, LineWords, ended, failed, refused, plain, answered, faulty}
use Rattle.pp_model.specs.ExistenceLaws.{AnAnswer, AnOperand, ALine}
use Rattle.pp_model.specs.declared.read.Read.{Read}
use Rattle.pp_model.specs.declared.read.Taken.{Taken}
use Rattle.pp_model.specs.declared.read.Taken.TheVariants as taken
use Rattle.pp_model.specs.declared.word.LineKind.{LineKind}
use Rattle.pp_model.specs.declared.word.Word.TheVariants.{Defined}
use Rattle.pp_model.proofs.values.OperandCases.{no_name, named, name, in_parentheses, neither}
use Rattle.pp_model.proofs.existence.Turns.{is_token, GoesOn, goes_on}
use Rattle.pp_model.proofs.existence.ListLemmas.{HasFinite, every_listed}

value_is_token : (test : TokenValue → Bool) (o : Taken) → has_value test o ≡ true → is_token o ≡ true
value_is_token test (taken.Token read) h = refl
value_is_token test _ h = h

name_is_token : (o : Taken) (n : Name) → name_in o ≡ Some n → is_token o ≡ true
name_is_token (taken.Token read) n h = refl
name_is_token _ n h = cc

module _ (kind : LineKind) (directive : Place) (A : Answers) where
  -- ---- what is known where a line is read

  abbrev Worded : Expander Listed → Type 0
  Worded e = (words : Words) × LineWords kind directive A e words

  -- where the `)` after a `defined ( name` is wanted
  record Closing (e : Expander Listed) : Type 0 where
    given : Taken
    after : Expander Listed
    emits : Emits line_reading A e given after
    goes : has_value is_right_paren given ≡ true → Worded after

  -- where the name after a `defined (` is wanted
  record Naming (e : Expander Listed) : Type 0 where
    given : Taken
    after : Expander Listed
    takes : Takes line_reading e given after
    goes : is_token given ≡ true → Closing after

  -- where the operand of a `defined` is wanted
  record Asking (e : Expander Listed) : Type 0 where
    given : Taken
    after : Expander Listed
    takes : Takes line_reading e given after
    goes : is_token given ≡ true → Worded after
    names : is_token given ≡ true → Naming after

  record Lined (e : Expander Listed) : Type 0 where
    worded : Worded e
    asking : Asking e
    naming : Naming e
    closing : Closing e

  -- ---- an operand

  record Operating (e : Expander Listed) : Type 0 where
    result : Result Bool PlacedFault
    after : Expander Listed
    operand : Operand kind directive A e result after
    goes : is_ok result ≡ true → Worded after

  -- the operand after its `(`
  record Enclosing (e : Expander Listed) : Type 0 where
    result : Result Bool PlacedFault
    after : Expander Listed
    inside : InParentheses kind directive A e result after
    goes : is_ok result ≡ true → Worded after

  answered_closed : (answer : Bool) (called : Option CallPlace) (o : Taken) → is_ok (closed_by kind directive answer called o) ≡ true
      → has_value is_right_paren o ≡ true
  answered_closed answer called o k = closes (has_value is_right_paren o) refl
    where
      closes : (b : Bool) → has_value is_right_paren o ≡ b → has_value is_right_paren o ≡ true
      closes true v = v
      closes false v = let unanswered : is_ok (closed_by kind directive answer called o) ≡ false = rw v refl in cc

  named_by : (e : Expander Listed) → (a : Naming e) → (m : Option Name) → name_in a.given ≡ m → Enclosing e
  named_by e a None q = record {
    result = Err (fault_in (outermost_call a.after.list) (unwanted_part directive a.given));
    after = a.after;
    inside = no_name kind directive A a.given e a.after _ a.takes q refl;
    goes = λ k. cc;
  }
  named_by e a (Some n) q =
      let c = a.goes (name_is_token a.given n q) in
      let result = closed_by kind directive (is_defined c.after n) (item_call c.emits) c.given in
      record {
        result = result;
        after = c.after;
        inside = named kind directive A a.given c.given n e a.after c.after result a.takes q c.emits refl;
        goes = λ k. c.goes (answered_closed (is_defined c.after n) (item_call c.emits) c.given k);
      }

  parenthesized : (e : Expander Listed) (a : Asking e) → name_in a.given ≡ None → (b : Bool) → has_value is_left_paren a.given ≡ b → Operating e
  parenthesized e a q true p =
      let n = a.names (value_is_token is_left_paren a.given p) in
      let inside = named_by a.after n (name_in n.given) refl in
      record {
        result = inside.result;
        after = inside.after;
        operand = in_parentheses kind directive A a.given e a.after inside.after inside.result a.takes p inside.inside;
        goes = inside.goes;
      }
  parenthesized e a q false p = record {
    result = Err (fault_in (outermost_call a.after.list) (unwanted_part directive a.given));
    after = a.after;
    operand = neither kind directive A a.given e a.after _ a.takes q p refl;
    goes = λ k. cc;
  }

  asked : (e : Expander Listed) (a : Asking e) → (m : Option Name) → name_in a.given ≡ m → Operating e
  asked e a (Some n) q = record {
    result = Ok (is_defined a.after n);
    after = a.after;
    operand = name kind directive A a.given n e a.after (Ok (is_defined a.after n)) a.takes q refl;
    goes = λ k. a.goes (name_is_token a.given n q);
  }
  asked e a None q = parenthesized e a q (has_value is_left_paren a.given) refl

  -- ---- words

  operated : (e g : Expander Listed) (read : Read) (i : Emits line_reading A e (taken.Token read) g) → reading kind read ≡ operator → (o : Operating g)
      → (r : Result Bool PlacedFault) → o.result ≡ r → Worded e
  operated e g read i p o (Ok answer) q =
      let rest = o.goes (rw q refl) in
      let words = word_before (Defined (place_in (item_call i) (place_of read)) (Ok answer)) rest.0 in
      (words, answered read answer e g o.after rest.0 words i p (rw q at o.operand) rest.1 refl)
  operated e g read i p o (Err f) q =
      let words : Words = record { words = Defined (place_in (item_call i) (place_of read)) (Err f) ∷ []; ending = None } in
      (words, faulty read f e g o.after words i p (rw q at o.operand) refl)

  read_token : (e g : Expander Listed) (read : Read) → Emits line_reading A e (taken.Token read) g → Lined g → (r : WordReading) → reading kind read ≡ r
      → Worded e
  read_token e g read i l operator p =
      let o = asked g l.asking (name_in l.asking.given) refl in
      operated e g read i p o o.result refl
  read_token e g read i l (word w) p =
      let words = word_before (word_of (item_call i) w) l.worded.0 in
      (words, plain read w e g l.worded.0 words i p l.worded.1 refl)
  read_token e g read i l (fault f) p =
      let words : Words = record { words = []; ending = Some (fault_in (item_call i) f) } in
      (words, refused read f e g words i p refl)

  first_word : (e g : Expander Listed) (x : Taken) → Emits line_reading A e x g → (is_token x ≡ true → Lined g) → Worded e
  first_word e g (taken.Token read) i goes = read_token e g read i (goes refl) (reading kind read) refl
  first_word e g (taken.Fault f) i goes = let words : Words = record { words = []; ending = Some f } in (words, failed f e g words i refl)
  first_word e g taken.End i goes = let words : Words = record { words = []; ending = None } in (words, ended e g words i refl)

  -- ---- of every line

  lined : (e : Expander Listed) → GoesOn line_reading A HasFinite e → Lined e
  lined e (goes_on x o e1 f h takes fine_f more emits fine_h next) = record {
    worded = first_word e h o emits (λ k. lined h (next k));
    asking = record { given = x; after = f; takes = takes; goes = λ k. (lined f (more k)).worded; names = λ k. (lined f (more k)).naming };
    naming = record { given = x; after = f; takes = takes; goes = λ k. (lined f (more k)).closing };
    closing = record { given = o; after = h; emits = emits; goes = λ k. (lined h (next (value_is_token is_right_paren o k))).worded };
  }

  every_line : AnAnswer A → (e : Expander Listed) → HasFinite e.reader → Lined e
  every_line calls e finite = lined e (every_listed (λ name. is_same_name name defined_name) A calls e finite)

-- The operand of a `defined` has an answer, or a fault.
pub an_operand : (A : Answers) → AnAnswer A → AnOperand A
an_operand A calls kind directive e finite =
    let asking = (every_line kind directive A calls e finite).asking in
    let o = asked kind directive A e asking (name_in asking.given) refl in
    (o.result, o.after, o.operand)

-- A line has a list of words.
pub a_line : (A : Answers) → AnAnswer A → ALine A
a_line A calls kind directive e finite = (every_line kind directive A calls e finite).worded
