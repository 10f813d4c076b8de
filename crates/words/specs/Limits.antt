-- The limits of document 01, each in one place.
use Rattle.std.specs.Prelude.{ℕ}

-- "capacity > 2,048" is a wrong shape
abbrev pub max_places : ℕ
max_places = 2048

-- "no unused cascade place (of at most 65,536)": a larger capacity is a wrong shape
abbrev pub max_cascade_places : ℕ
max_cascade_places = 65536

-- "Byte multiplicities not 256 .. are 1"
abbrev pub byte_rows : ℕ
byte_rows = 256

-- "table .. over 131,072 rows" is a wrong shape
abbrev pub max_rows : ℕ
max_rows = 131072

-- "The limit becomes p − 1": no multiplicity is above it. This crate does not know p; list/proofs/JudgedLists.antt: limit_is
abbrev pub multiplicity_limit : ℕ
multiplicity_limit = 18446744069414584320

-- "more than 1,048,576 jobs" is a wrong shape
abbrev pub max_jobs : ℕ
max_jobs = 1048576

-- "the byte lookup always has 256 rows": no padded height is below it
abbrev pub min_padded_height : ℕ
min_padded_height = 256
