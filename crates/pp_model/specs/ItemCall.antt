-- The text that an item is in, and the macro from which it comes (docs/RULES.md, Calls 15).
use Rattle.std.specs.Prelude.{ℕ, List, Option, Some, None}
use Rattle.pp_model.specs.SpliceList.{outermost_call}
use Rattle.pp_model.specs.Reading.{Reading, Expander}
use Rattle.pp_model.specs.Calls.{Answers}
use Rattle.pp_model.specs.Emitting.{Emits, itself, object, name_alone, call_refused, call}
use Rattle.pp_model.specs.declared.read.Taken.{Taken}
use Rattle.pp_model.specs.declared.read.Taken.TheVariants as taken
use Rattle.pp_model.specs.declared.splice.CallPlace.{CallPlace}
use Rattle.pp_model.specs.declared.splice.Entry.{Entry}

-- the text in which the place of an item is; the end has none
abbrev pub text_of : Taken → Option ℕ
text_of (taken.Token read) = Some read.text
text_of (taken.Fault fault) = Some fault.1.text
text_of taken.End = None

-- the call that an error has, and for anything else that of the outermost macro that is open among the entries
abbrev pub call_among : List Entry → Taken → Option CallPlace
call_among entries (taken.Fault fault) = fault.1.call
call_among entries o = outermost_call entries

-- Where the outermost macro was called that is open once the item was taken, if one is: of a name, before a `(` is
-- sought after it. An error has a call also if a macro was open in an argument or on the line of a directive.
abbrev pub item_call : {R : Type 0} {I : Reading R} {A : Answers} {e h : Expander R} {o : Taken}
    → Emits I A e o h → Option CallPlace
item_call (itself x o e f takes none is) = call_among f.list o
item_call (object x o m e f h takes opens bare emits) = item_call emits
item_call (name_alone x y o m e f g h takes opens function calls is at) = outermost_call f.list
item_call (call_refused x o fault m e f g takes opens function calls is) = call_among g.list o
item_call (call x o arguments line m e f g h takes opens function calls emits) = item_call emits
