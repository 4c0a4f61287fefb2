-- Worked examples of words, as theorems.
use Rattle.std.specs.Prelude.{[], ◌∷◌, true, false, Some, None, codes}
use Rattle.mw_words.specs.Words.{run, erased, link, sample, migrate, wat, check, cert, recheck, Means, IsUsage}

-- a file alone
abbrev pub FileAlone : Type 0
FileAlone = Means (codes "run" ∷ codes "f" ∷ []) (run 4 1000000 false None (codes "f"))

-- an option's value as the next word
abbrev pub FuelApart : Type 0
FuelApart = Means (codes "run" ∷ codes "--fuel" ∷ codes "8" ∷ codes "f" ∷ []) (run 4 8 false None (codes "f"))

-- and after `=`
abbrev pub FuelJoined : Type 0
FuelJoined = Means (codes "run" ∷ codes "--fuel=8" ∷ codes "f" ∷ []) (run 4 8 false None (codes "f"))

-- an option before the file, and one behind it, whose number has leading zeros
abbrev pub BothOptions : Type 0
BothOptions = Means
    (codes "run" ∷ codes "--fuel=10000000" ∷ codes "f" ∷ codes "--workers" ∷ codes "000000064" ∷ [])
    (run 64 10000000 false None (codes "f"))

-- simplification, before the file or behind it
abbrev pub SimplifyFirst : Type 0
SimplifyFirst = Means (codes "run" ∷ codes "--simplify" ∷ codes "f" ∷ []) (run 4 1000000 true None (codes "f"))

abbrev pub SimplifyLast : Type 0
SimplifyLast = Means (codes "run" ∷ codes "f" ∷ codes "--fuel=8" ∷ codes "--simplify" ∷ [])
    (run 4 8 true None (codes "f"))

-- a cache's path as the next word
abbrev pub CacheApart : Type 0
CacheApart = Means (codes "run" ∷ codes "--cache" ∷ codes "c" ∷ codes "f" ∷ [])
    (run 4 1000000 false (Some (codes "c")) (codes "f"))

-- and after `=`
abbrev pub CacheJoined : Type 0
CacheJoined = Means (codes "run" ∷ codes "--cache=c" ∷ codes "f" ∷ [])
    (run 4 1000000 false (Some (codes "c")) (codes "f"))

-- a cache behind the file, with simplification between them
abbrev pub CacheSimplified : Type 0
CacheSimplified = Means (codes "run" ∷ codes "f" ∷ codes "--simplify" ∷ codes "--cache" ∷ codes "c" ∷ [])
    (run 4 1000000 true (Some (codes "c")) (codes "f"))

-- a cache among the other options, each before the file
abbrev pub CacheAmongOptions : Type 0
CacheAmongOptions = Means
    (codes "run" ∷ codes "--fuel=8" ∷ codes "--cache=c" ∷ codes "--simplify" ∷ codes "f" ∷ [])
    (run 4 8 true (Some (codes "c")) (codes "f"))

-- the erased program of a file
abbrev pub ErasedAlone : Type 0
ErasedAlone = Means (codes "erased" ∷ codes "f" ∷ []) (erased 1000000 (codes "f"))

-- its option in either form
abbrev pub ErasedApart : Type 0
ErasedApart = Means (codes "erased" ∷ codes "--fuel" ∷ codes "8" ∷ codes "f" ∷ []) (erased 8 (codes "f"))

abbrev pub ErasedJoined : Type 0
ErasedJoined = Means (codes "erased" ∷ codes "--fuel=8" ∷ codes "f" ∷ []) (erased 8 (codes "f"))

-- and behind the file
abbrev pub ErasedBehind : Type 0
ErasedBehind = Means (codes "erased" ∷ codes "f" ∷ codes "--fuel" ∷ codes "8" ∷ []) (erased 8 (codes "f"))

-- the link of a file
abbrev pub LinkAlone : Type 0
LinkAlone = Means (codes "link" ∷ codes "f" ∷ []) (link 4 1000000 (codes "f"))

-- its options in one form
abbrev pub LinkApart : Type 0
LinkApart = Means
    (codes "link" ∷ codes "--workers" ∷ codes "2" ∷ codes "--fuel" ∷ codes "8" ∷ codes "f" ∷ [])
    (link 2 8 (codes "f"))

-- and in the other
abbrev pub LinkJoined : Type 0
LinkJoined = Means (codes "link" ∷ codes "--workers=2" ∷ codes "--fuel=8" ∷ codes "f" ∷ []) (link 2 8 (codes "f"))

-- behind the file, the other way round
abbrev pub LinkBehind : Type 0
LinkBehind = Means (codes "link" ∷ codes "f" ∷ codes "--fuel" ∷ codes "8" ∷ codes "--workers=2" ∷ [])
    (link 2 8 (codes "f"))

-- and on both sides of it, with the greatest numbers
abbrev pub LinkAround : Type 0
LinkAround = Means
    (codes "link" ∷ codes "--fuel=10000000" ∷ codes "f" ∷ codes "--workers" ∷ codes "000000064" ∷ [])
    (link 64 10000000 (codes "f"))

-- a sample
abbrev pub SampleOfHundred : Type 0
SampleOfHundred = Means (codes "sample" ∷ codes "100" ∷ []) (sample 100)

-- the migration of a cache, whose path is the next word
abbrev pub MigrateApart : Type 0
MigrateApart = Means (codes "migrate" ∷ codes "--cache" ∷ codes "c" ∷ []) (migrate (codes "c"))

-- or stands after `=`
abbrev pub MigrateJoined : Type 0
MigrateJoined = Means (codes "migrate" ∷ codes "--cache=c" ∷ []) (migrate (codes "c"))

-- the text of a module
abbrev pub WatFile : Type 0
WatFile = Means (codes "wat" ∷ codes "f" ∷ []) (wat (codes "f"))

-- and the verdict on it
abbrev pub CheckFile : Type 0
CheckFile = Means (codes "check" ∷ codes "f" ∷ []) (check (codes "f"))

-- the certificate of the typing of a source
abbrev pub CertFile : Type 0
CertFile = Means (codes "cert" ∷ codes "f" ∷ []) (cert (codes "f"))

-- whether a file certifies the typing of another's source
abbrev pub RecheckFiles : Type 0
RecheckFiles = Means (codes "recheck" ∷ codes "c" ∷ codes "f" ∷ []) (recheck (codes "c") (codes "f"))

-- or of its own
abbrev pub RecheckSameFile : Type 0
RecheckSameFile = Means (codes "recheck" ∷ codes "f" ∷ codes "f" ∷ []) (recheck (codes "f") (codes "f"))

-- no word
abbrev pub NoWord : Type 0
NoWord = IsUsage []

-- an option before the command
abbrev pub OptionFirst : Type 0
OptionFirst = IsUsage (codes "--fuel" ∷ codes "7" ∷ codes "run" ∷ codes "f" ∷ [])

-- two files
abbrev pub TwoFiles : Type 0
TwoFiles = IsUsage (codes "run" ∷ codes "f" ∷ codes "g" ∷ [])

-- the word `--`
abbrev pub TwoDashes : Type 0
TwoDashes = IsUsage (codes "run" ∷ codes "--" ∷ codes "f" ∷ [])

-- an option twice, in each form once
abbrev pub FuelTwice : Type 0
FuelTwice = IsUsage (codes "run" ∷ codes "--fuel=7" ∷ codes "f" ∷ codes "--fuel" ∷ codes "7" ∷ [])

-- simplification twice
abbrev pub SimplifyTwice : Type 0
SimplifyTwice = IsUsage (codes "run" ∷ codes "--simplify" ∷ codes "f" ∷ codes "--simplify" ∷ [])

-- simplification with a value
abbrev pub SimplifyValued : Type 0
SimplifyValued = IsUsage (codes "run" ∷ codes "--simplify=1" ∷ codes "f" ∷ [])

-- a cache twice, in each form once
abbrev pub CacheTwice : Type 0
CacheTwice = IsUsage (codes "run" ∷ codes "--cache=c" ∷ codes "f" ∷ codes "--cache" ∷ codes "d" ∷ [])

-- a cache without its path, at the end
abbrev pub CacheWithoutPath : Type 0
CacheWithoutPath = IsUsage (codes "run" ∷ codes "f" ∷ codes "--cache" ∷ [])

-- a cache of an empty path
abbrev pub CacheEmpty : Type 0
CacheEmpty = IsUsage (codes "run" ∷ codes "--cache=" ∷ codes "f" ∷ [])

-- a path that begins with `-`, as an option in its place does
abbrev pub CacheDashed : Type 0
CacheDashed = IsUsage (codes "run" ∷ codes "--cache=-c" ∷ codes "f" ∷ [])

abbrev pub CacheOptionAsPath : Type 0
CacheOptionAsPath = IsUsage (codes "run" ∷ codes "--cache" ∷ codes "--simplify" ∷ codes "f" ∷ [])

-- an erased program with a cache
abbrev pub ErasedCached : Type 0
ErasedCached = IsUsage (codes "erased" ∷ codes "--cache=c" ∷ codes "f" ∷ [])

-- a sample with a cache
abbrev pub SampleCached : Type 0
SampleCached = IsUsage (codes "sample" ∷ codes "--cache=c" ∷ codes "5" ∷ [])

-- an erased program of no file
abbrev pub ErasedNoFile : Type 0
ErasedNoFile = IsUsage (codes "erased" ∷ [])

-- an erased program by workers
abbrev pub ErasedWorkers : Type 0
ErasedWorkers = IsUsage (codes "erased" ∷ codes "--workers" ∷ codes "2" ∷ codes "f" ∷ [])

-- an erased program of two files
abbrev pub ErasedTwoFiles : Type 0
ErasedTwoFiles = IsUsage (codes "erased" ∷ codes "f" ∷ codes "g" ∷ [])

-- and a simplified one
abbrev pub ErasedSimplified : Type 0
ErasedSimplified = IsUsage (codes "erased" ∷ codes "--simplify" ∷ codes "f" ∷ [])

-- its option twice
abbrev pub ErasedFuelTwice : Type 0
ErasedFuelTwice = IsUsage (codes "erased" ∷ codes "--fuel=7" ∷ codes "f" ∷ codes "--fuel" ∷ codes "7" ∷ [])

-- a link of no file
abbrev pub LinkNoFile : Type 0
LinkNoFile = IsUsage (codes "link" ∷ [])

-- of two files
abbrev pub LinkTwoFiles : Type 0
LinkTwoFiles = IsUsage (codes "link" ∷ codes "f" ∷ codes "g" ∷ [])

-- a simplified one
abbrev pub LinkSimplified : Type 0
LinkSimplified = IsUsage (codes "link" ∷ codes "--simplify" ∷ codes "f" ∷ [])

-- and one with a cache
abbrev pub LinkCached : Type 0
LinkCached = IsUsage (codes "link" ∷ codes "--cache" ∷ codes "c" ∷ codes "f" ∷ [])

-- by no worker
abbrev pub LinkNoWorker : Type 0
LinkNoWorker = IsUsage (codes "link" ∷ codes "--workers" ∷ codes "0" ∷ codes "f" ∷ [])

-- by one more than there may be
abbrev pub LinkManyWorkers : Type 0
LinkManyWorkers = IsUsage (codes "link" ∷ codes "--workers" ∷ codes "65" ∷ codes "f" ∷ [])

-- an option of it twice, in each form once
abbrev pub LinkWorkersTwice : Type 0
LinkWorkersTwice = IsUsage (codes "link" ∷ codes "--workers=2" ∷ codes "f" ∷ codes "--workers" ∷ codes "3" ∷ [])

-- and the other
abbrev pub LinkFuelTwice : Type 0
LinkFuelTwice = IsUsage (codes "link" ∷ codes "--fuel=7" ∷ codes "f" ∷ codes "--fuel" ∷ codes "7" ∷ [])

-- a migration without its cache
abbrev pub MigrateUncached : Type 0
MigrateUncached = IsUsage (codes "migrate" ∷ [])

-- with two, in each form one
abbrev pub MigrateTwice : Type 0
MigrateTwice = IsUsage (codes "migrate" ∷ codes "--cache=c" ∷ codes "--cache" ∷ codes "d" ∷ [])

-- with a file
abbrev pub MigrateFile : Type 0
MigrateFile = IsUsage (codes "migrate" ∷ codes "--cache=c" ∷ codes "f" ∷ [])

-- and with another option
abbrev pub MigrateFuelled : Type 0
MigrateFuelled = IsUsage (codes "migrate" ∷ codes "--cache=c" ∷ codes "--fuel=8" ∷ [])

-- the text of no module
abbrev pub WatNoFile : Type 0
WatNoFile = IsUsage (codes "wat" ∷ [])

-- of two
abbrev pub WatTwoFiles : Type 0
WatTwoFiles = IsUsage (codes "wat" ∷ codes "f" ∷ codes "g" ∷ [])

-- by an option
abbrev pub WatOption : Type 0
WatOption = IsUsage (codes "wat" ∷ codes "--fuel=8" ∷ codes "f" ∷ [])

-- of a file whose name is empty
abbrev pub WatEmpty : Type 0
WatEmpty = IsUsage (codes "wat" ∷ codes "" ∷ [])

-- and of one that begins with `-`
abbrev pub WatDashed : Type 0
WatDashed = IsUsage (codes "wat" ∷ codes "-f" ∷ [])

-- the verdict on no module
abbrev pub CheckNoFile : Type 0
CheckNoFile = IsUsage (codes "check" ∷ [])

-- on two
abbrev pub CheckTwoFiles : Type 0
CheckTwoFiles = IsUsage (codes "check" ∷ codes "f" ∷ codes "g" ∷ [])

-- by an option
abbrev pub CheckOption : Type 0
CheckOption = IsUsage (codes "check" ∷ codes "--fuel=8" ∷ codes "f" ∷ [])

-- on a file whose name is empty
abbrev pub CheckEmpty : Type 0
CheckEmpty = IsUsage (codes "check" ∷ codes "" ∷ [])

-- and on one that begins with `-`
abbrev pub CheckDashed : Type 0
CheckDashed = IsUsage (codes "check" ∷ codes "-f" ∷ [])

-- the certificate of no source
abbrev pub CertNoFile : Type 0
CertNoFile = IsUsage (codes "cert" ∷ [])

-- of two
abbrev pub CertTwoFiles : Type 0
CertTwoFiles = IsUsage (codes "cert" ∷ codes "a" ∷ codes "b" ∷ [])

-- by an option
abbrev pub CertOption : Type 0
CertOption = IsUsage (codes "cert" ∷ codes "--fuel=8" ∷ codes "f" ∷ [])

-- of a file whose name is empty
abbrev pub CertEmpty : Type 0
CertEmpty = IsUsage (codes "cert" ∷ codes "" ∷ [])

-- and of one that begins with `-`
abbrev pub CertDashed : Type 0
CertDashed = IsUsage (codes "cert" ∷ codes "-a" ∷ [])

-- a recheck of no file
abbrev pub RecheckNoFile : Type 0
RecheckNoFile = IsUsage (codes "recheck" ∷ [])

-- of one
abbrev pub RecheckOneFile : Type 0
RecheckOneFile = IsUsage (codes "recheck" ∷ codes "a" ∷ [])

-- of three
abbrev pub RecheckThreeFiles : Type 0
RecheckThreeFiles = IsUsage (codes "recheck" ∷ codes "a" ∷ codes "b" ∷ codes "c" ∷ [])

-- by an option
abbrev pub RecheckOption : Type 0
RecheckOption = IsUsage (codes "recheck" ∷ codes "--fuel" ∷ codes "1" ∷ codes "a" ∷ codes "b" ∷ [])

-- by a certificate whose name is empty
abbrev pub RecheckEmptyCert : Type 0
RecheckEmptyCert = IsUsage (codes "recheck" ∷ codes "" ∷ codes "b" ∷ [])

-- or begins with `-`
abbrev pub RecheckDashedCert : Type 0
RecheckDashedCert = IsUsage (codes "recheck" ∷ codes "-a" ∷ codes "b" ∷ [])

-- and of a source whose name is empty
abbrev pub RecheckEmptyFile : Type 0
RecheckEmptyFile = IsUsage (codes "recheck" ∷ codes "a" ∷ codes "" ∷ [])

-- or begins with `-`
abbrev pub RecheckDashedFile : Type 0
RecheckDashedFile = IsUsage (codes "recheck" ∷ codes "a" ∷ codes "-b" ∷ [])
