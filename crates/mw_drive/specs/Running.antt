-- What the top call says of words, source and sink.
use Rattle.std.specs.Prelude.{◌≡◌, ◌⊎◌, ℕ, List, [], ◌∷◌, ◌++◌, take, Option, Some, None, IsNone, Bool, true}
use Rattle.std.specs.Prelude.{false}
use Rattle.std.specs.Prelude.{IsTrue, Result, Ok, Err, alloc_error}
use Rattle.mw_outside.specs.declared.named.NamedFile.{NamedFile}
use Rattle.mw_outside.specs.Count.{GrowsByFront}
use Rattle.mw_outside.specs.Lookup.{file_of}
use Rattle.mw_outside.specs.declared.errors.WriteFault.TheVariants as fault
use Rattle.mw_meaning.specs.declared.mode.Mode.{Mode}
use Rattle.mw_meaning.specs.declared.mode.Mode.TheVariants.{Plain, Simple}
use Rattle.mw_words.specs.Words.{PureCommand, run, erased, link, sample, migrate, wat, check, cert, recheck, Means}
use Rattle.mw_console.specs.declared.status.Status.{Status}
use Rattle.mw_console.specs.declared.status.Status.TheVariants.{Read, Write, Memory, BadCache}
use Rattle.mw_console.specs.Texts.{Ending}
use Rattle.mw_drive.specs.declared.fault.RunFault.{RunFault}
use Rattle.mw_drive.specs.declared.fault.RunFault.TheVariants.{Unwritten, Bad}
use Rattle.mw_drive.specs.declared.shown.Shown.{Shown}
use Rattle.mw_drive.specs.declared.shown.Shown.TheVariants.{Lines}
use Rattle.mw_drive.specs.Honest.{IsHonestCache}
use Rattle.mw_link.specs.Linked.{Kernel}
use Rattle.mw_drive.specs.Extents.{Extent, nothing, a_front, whole, unkept, all_or_nothing, unsaid, never}
use Rattle.mw_drive.specs.Extents.{Kind, on_a_file, over_a_cache, on_a_number, on_a_cache, extent}
use Rattle.mw_drive.specs.Works.{Work, running, erasing, linking, sampling, migrating, writing, judging, Meaning, ran}
use Rattle.mw_drive.specs.Works.{certifying, rechecking}
use Rattle.mw_drive.specs.Works.{IsMeaning, text_of, status_of, IsOutput, Reports}

-- the files that the source has, if it tells them
pub record Sources : Type 0 where
  pub tells : Bool
  pub files : List NamedFile

-- What the outside has for the program: the source's files, and what the keeper holds, if it tells that.
pub record Outside : Type 0 where
  pub source : Sources
  pub keeps : Bool
  pub held : List ℕ

abbrev pub sources : Bool → List NamedFile → Sources
sources tells files = record { tells = tells; files = files }

abbrev pub outside : Bool → List NamedFile → Bool → List ℕ → Outside
outside tells files keeps held = record { source = sources tells files; keeps = keeps; held = held }

-- reading a source ends with one byte more than the longest source has, and so does reading a module or a certificate
abbrev pub most_of_source : ℕ
most_of_source = 1_048_577

abbrev pub most_of_module : ℕ
most_of_module = 67_108_865

abbrev pub most_of_certificate : ℕ
most_of_certificate = 67_108_865

-- a file that a command reads: its name, and the most bytes of it that are read
pub record Wanted : Type 0 where
  pub name : List ℕ
  pub most : ℕ

abbrev pub wanted : List ℕ → ℕ → Wanted
wanted name most = record { name = name; most = most }

abbrev pub source_file : List ℕ → Wanted
source_file name = wanted name most_of_source

abbrev pub module_file : List ℕ → Wanted
module_file name = wanted name most_of_module

abbrev pub certificate_file : List ℕ → Wanted
certificate_file name = wanted name most_of_certificate

-- the files of a command, in the order in which they are read
abbrev pub files_of : PureCommand → List Wanted
files_of (run workers fuel simplify cache file) = source_file file ∷ []
files_of (erased fuel file) = source_file file ∷ []
files_of (link workers fuel file) = source_file file ∷ []
files_of (sample number) = []
files_of (migrate cache) = []
files_of (wat file) = module_file file ∷ []
files_of (check file) = module_file file ∷ []
files_of (cert file) = source_file file ∷ []
files_of (recheck certificate file) = source_file file ∷ certificate_file certificate ∷ []

-- the name of a command's cache file
abbrev pub path_of : PureCommand → Option (List ℕ)
path_of (run workers fuel simplify cache file) = cache
path_of (erased fuel file) = None
path_of (link workers fuel file) = None
path_of (sample number) = None
path_of (migrate cache) = Some cache
path_of (wat file) = None
path_of (check file) = None
path_of (cert file) = None
path_of (recheck certificate file) = None

-- it tells that it has the file, of these bytes
pub record Has (source : Sources) (file : Wanted) (bytes : List ℕ) : Type 0 where
  pub telling : IsTrue source.tells
  pub found : file_of source.files file.name ≡ Some bytes

-- it tells that it lacks the file
pub record Lacks (source : Sources) (file : Wanted) : Type 0 where
  pub telling : IsTrue source.tells
  pub missing : IsNone (file_of source.files file.name)

-- it has each of the files, of these bytes
pub data HasAll (source : Sources) : List Wanted → List (List ℕ) → Type 0 where
  has_none : HasAll source [] []
  has_more : {file : Wanted} {bytes : List ℕ} {files : List Wanted} {contents : List (List ℕ)}
      → Has source file bytes → HasAll source files contents
      → HasAll source (file ∷ files) (bytes ∷ contents)

-- it lacks the first of the files
pub data LacksFirst (source : Sources) : List Wanted → Type 0 where
  lacks_first : {file : Wanted} {files : List Wanted} → Lacks source file → LacksFirst source (file ∷ files)

-- it lacks one of the files
pub data LacksSome (source : Sources) : List Wanted → Type 0 where
  lacks_this : {file : Wanted} {files : List Wanted} → Lacks source file → LacksSome source (file ∷ files)
  lacks_later : {file : Wanted} {files : List Wanted} → LacksSome source files → LacksSome source (file ∷ files)

-- the file is the last of these, and holds these bytes
pub data IsLast (file : Wanted) (bytes : List ℕ) : List Wanted → List (List ℕ) → Type 0 where
  alone : IsLast file bytes (file ∷ []) (bytes ∷ [])
  behind : {other : Wanted} {held : List ℕ} {files : List Wanted} {contents : List (List ℕ)}
      → IsLast file bytes files contents → IsLast file bytes (other ∷ files) (held ∷ contents)

-- how kernels' code is run, by whether it is to be simplified
abbrev pub mode_when : Bool → Mode
mode_when true = Simple
mode_when false = Plain

-- a command's work on what its files hold, or on what the keeper holds, where that is told
pub data IsWork (outside : Outside) : PureCommand → List (List ℕ) → Work → Type 0 where
  run_works : {workers fuel : ℕ} {simplify : Bool} {cache : Option (List ℕ)} {file bytes : List ℕ}
      → IsWork outside (run workers fuel simplify cache file) (bytes ∷ [])
      (running bytes fuel (Lines (mode_when simplify)))
  erased_works : {fuel : ℕ} {file bytes : List ℕ}
      → IsWork outside (erased fuel file) (bytes ∷ []) (erasing bytes fuel)
  link_works : {workers fuel : ℕ} {file bytes : List ℕ}
      → IsWork outside (link workers fuel file) (bytes ∷ []) (linking bytes fuel)
  sample_works : {number : ℕ} → IsWork outside (sample number) [] (sampling number)
  migrate_works : {cache : List ℕ} → IsTrue outside.keeps
      → IsWork outside (migrate cache) [] (migrating outside.held)
  wat_works : {file bytes : List ℕ} → IsWork outside (wat file) (bytes ∷ []) (writing (take most_of_module bytes))
  check_works : {file bytes : List ℕ}
      → IsWork outside (check file) (bytes ∷ []) (judging (take most_of_module bytes))
  cert_works : {file bytes : List ℕ} → IsWork outside (cert file) (bytes ∷ []) (certifying bytes)
  recheck_works : {certificate file bytes text : List ℕ}
      → IsWork outside (recheck certificate file) (bytes ∷ text ∷ []) (rechecking (take most_of_certificate text) bytes)

-- the words mean this command, and the outside has its files, which hold these bytes
pub record AsksOn (words : List (List ℕ)) (outside : Outside) (command : PureCommand)
    (contents : List (List ℕ)) : Type 0 where
  pub means : Means words command
  pub has : HasAll outside.source (files_of command) contents

-- where a run has a cache file, the outside tells what it holds, and that is honest; no other command asks for that
abbrev pub HasHonestCache : Outside → PureCommand → Type 0
HasHonestCache outside (run workers fuel simplify cache file) = IsHonestCache outside.keeps outside.held cache
HasHonestCache outside command = Unit {0}

-- words and outside ask for this work, whatever the cache file holds
pub record AsksOver (words : List (List ℕ)) (outside : Outside) (work : Work) : Type 0 where
  pub command : PureCommand
  pub contents : List (List ℕ)
  pub on : AsksOn words outside command contents
  pub works : IsWork outside command contents work

-- words and outside ask for this work, with no cache file or an honest one
pub record Asks (words : List (List ℕ)) (outside : Outside) (work : Work) : Type 0 where
  pub command : PureCommand
  pub contents : List (List ℕ)
  pub on : AsksOn words outside command contents
  pub works : IsWork outside command contents work
  pub honest : HasHonestCache outside command

-- the words mean a command of whose files the outside lacks the first
pub record AsksMissing (words : List (List ℕ)) (outside : Outside) : Type 0 where
  pub command : PureCommand
  pub means : Means words command
  pub lacks : LacksFirst outside.source (files_of command)

-- the words mean a command of whose files the outside lacks one
pub record AsksLacking (words : List (List ℕ)) (outside : Outside) : Type 0 where
  pub command : PureCommand
  pub means : Means words command
  pub lacks : LacksSome outside.source (files_of command)

-- the words mean a command that reads no file
pub record AsksNoFile (words : List (List ℕ)) : Type 0 where
  pub command : PureCommand
  pub means : Means words command
  pub none : files_of command ≡ []

-- the words mean a command that has no cache file
pub record AsksNoCache (words : List (List ℕ)) : Type 0 where
  pub command : PureCommand
  pub means : Means words command
  pub none : IsNone (path_of command)

-- the kind of command that evaluates a file
abbrev pub kind_with : {X : Type 0} → Option X → Kind
kind_with None = on_a_file
kind_with (Some path) = over_a_cache

abbrev pub kind_of : PureCommand → Kind
kind_of (run workers fuel simplify cache file) = kind_with cache
kind_of (erased fuel file) = on_a_file
kind_of (link workers fuel file) = on_a_file
kind_of (sample number) = on_a_number
kind_of (migrate cache) = on_a_cache
kind_of (wat file) = on_a_file
kind_of (check file) = on_a_file
kind_of (cert file) = on_a_file
kind_of (recheck certificate file) = on_a_file

-- the text of a program that ran
pub record IsRunText (work : Work) (text : List ℕ) : Type 0 where
  pub shown : Shown
  pub kernels : List Kernel
  pub ending : Ending
  pub is_meaning : IsMeaning work (ran shown kernels ending)
  pub is_text : text ≡ text_of (ran shown kernels ending)

-- What was written of a work is as much as its status says: nothing, or a front of a text that belongs to it; the whole
-- text with this status; the whole text of a program that ran, where the cache file wasn't kept; or the whole text, or
-- nothing.
abbrev pub IsFaithful : Extent → Work → Status → (before after : List ℕ) → Type 0
IsFaithful nothing work s before after = after ≡ before
IsFaithful a_front work s before after =
    (after ≡ before) ⊎ ((text : List ℕ) × IsOutput work text × GrowsByFront before after text)
IsFaithful whole work s before after = (text : List ℕ) × Reports work text s × (after ≡ before ++ text)
IsFaithful unkept work s before after = (text : List ℕ) × IsRunText work text × (after ≡ before ++ text)
IsFaithful all_or_nothing work s before after =
    (after ≡ before) ⊎ ((text : List ℕ) × IsOutput work text × (after ≡ before ++ text))
IsFaithful unsaid work s before after = ⊥
IsFaithful never work s before after = ⊥

-- A work was carried out with this status: what was written is faithful, a status of a whole text is what the work
-- means, and no record was bad.
pub record IsCarriedOut (kind : Kind) (work : Work) (s : Status) (tells : Bool) (before after : List ℕ) : Type 0 where
  pub faithful : IsTrue tells → IsFaithful (extent kind s) work s before after
  pub meaning : extent kind s ≡ whole → (m : Meaning) × IsMeaning work m × (s ≡ status_of m)
  pub said : extent kind s ≡ unsaid → ⊥

-- the status is want of memory
abbrev pub IsMemory : Status → Type 0
IsMemory s = s ≡ Memory alloc_error

-- a file was lacking: it couldn't be read, or there was no memory, and nothing was written
pub record IsUnread (s : Status) (tells : Bool) (before after : List ℕ) : Type 0 where
  pub status : (s ≡ Read) ⊎ IsMemory s
  pub nothing : IsTrue tells → after ≡ before

-- all of the output was written, or, as the cache file wasn't kept or wasn't read, all of it or nothing
abbrev pub IsWritten : Extent → Type 0
IsWritten x = (x ≡ whole) ⊎ (x ≡ unkept) ⊎ (x ≡ all_or_nothing)

-- the status of what was written, or of why it wasn't
abbrev pub IsStatusOf : Result Status RunFault → Status → Type 0
IsStatusOf (Ok status) s = s ≡ status
IsStatusOf (Err (Unwritten fault.Failed)) s = s ≡ Write
IsStatusOf (Err (Unwritten (fault.Memory error))) s = s ≡ Memory error
IsStatusOf (Err (Bad digest)) s = s ≡ BadCache digest
