-- What every function that prints leaves.
use Rattle.std.specs.Prelude.{ℕ, ◌+◌, ◌≤◌, ◌≡◌, List, length}
use Rattle.std.proofs.lemmas.List.Edits.{sets}
use Rattle.text.specs.declared.Text.{Text}

-- The text was put into a buffer from place `at` on: where the next begins, that it fits, and the buffer after it
pub record Put (before : List ℕ) (at : ℕ) (text after : List ℕ) (next : ℕ) : Type 0 where
  pub place : next ≡ at + length text
  pub fits : next ≤ length before
  pub held : after ≡ sets before at text

-- the buffer has room for so many bytes behind the text so far
abbrev pub HasRoom : Text → (count : ℕ) → Type 0
HasRoom text count = text.len + count ≤ length text.out.now

-- these bytes were put behind the text so far, in the same buffer
pub record Adds (before : Text) (bytes : List ℕ) (after : Text) : Type 0 where
  pub put : Put before.out.now before.len bytes after.out.now after.len
  pub same : after.out.ghost_name ≡ before.out.ghost_name
