-- A page of files.
use Rattle.std.specs.Prelude.{◌≡◌, ◌==◌, ◌<◌, ℕ, List, [], ◌++◌, if◌then◌else◌, Some, length, codes}
use Rattle.std.specs.List.{All, flat_map, slice_get}
use Rattle.std.specs.Str.{chars}
use Rattle.glslpp_html.specs.Shown.{Shows, escaped_character}
use Rattle.glslpp_html.specs.declared.overview.Entry.{Entry}
use Rattle.glslpp_html.specs.declared.page.File.{File}
use Rattle.glslpp_html.specs.declared.page.Part.{Part}
use Rattle.glslpp_html.specs.declared.style.TheConstants.{START, STYLE}

-- a file's name on a line
abbrev pub name_line : List ℕ → List ℕ
name_line name = chars name ++ codes "\n"

-- what is shown of a file: its name on a line, and its text
abbrev pub text_of_file : File → List ℕ
text_of_file file = name_line file.name.now ++ chars file.text.now

-- what is shown before the text of a part: the name of a file that begins with it
abbrev pub beginning_of : Part → List ℕ
beginning_of part = if part.is_first then name_line part.name.now else []

-- what is shown of a part
abbrev pub text_of_part : Part → List ℕ
text_of_part part = beginning_of part ++ chars part.text.now

-- what a part shows of the file with this number
abbrev pub text_in_file : ℕ → Part → List ℕ
text_in_file number part = if part.file == number then text_of_part part else []

-- the parts of each file show, one after another, what is shown of the file
abbrev pub AreEachWhole : List File → List Part → Type 0
AreEachWhole files parts =
    (number : ℕ) (file : File) → slice_get files number ≡ Some file
    → flat_map (text_in_file number) parts ≡ text_of_file file

-- parts show files whole, and nothing else
pub record AreWhole (files : List File) (parts : List Part) : Type 0 where
  pub each : AreEachWhole files parts
  pub no_other : All (λ part. part.file < length files) parts

-- A page is the lines before its title, the title, those that say how it looks, and a body that shows the command and
-- each file, in parts between which parts of other files may stand.
pub record IsPage (title command : List ℕ) (files : List File) (page : List ℕ) : Type 0 where
  pub named : List ℕ
  pub body : List ℕ
  pub parts : List Part
  pub is : page ≡ START.now ++ named ++ STYLE.now ++ body
  pub shows_title : chars named ≡ flat_map escaped_character (chars title)
  pub are_whole : AreWhole files parts
  pub shows : Shows (chars body) (chars command ++ flat_map text_of_part parts)

-- what is shown of a page to which an overview leads, on a line
abbrev pub text_of_entry : Entry → List ℕ
text_of_entry entry = chars entry.name.now ++ codes ": " ++ chars entry.note.now ++ codes "\n"

-- the same of a page that leads to others
pub record IsOverview (title command : List ℕ) (entries : List Entry) (page : List ℕ) : Type 0 where
  pub named : List ℕ
  pub body : List ℕ
  pub is : page ≡ START.now ++ named ++ STYLE.now ++ body
  pub shows_title : chars named ≡ flat_map escaped_character (chars title)
  pub shows : Shows (chars body) (chars command ++ flat_map text_of_entry entries)
