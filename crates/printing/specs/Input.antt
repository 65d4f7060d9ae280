-- What reading the input answers.
-- Assumes nothing.
use Rattle.std.specs.Prelude.{ℕ, Ok, Err, Result as Reply}
use Rattle.printing.specs.declared.input.ReadFailed.{ReadFailed}

-- how many bytes were read, also where a read failed after them
abbrev pub bytes_of : Reply ℕ ReadFailed → ℕ
bytes_of (Ok n) = n
bytes_of (Err e) = e.bytes
