-- What came of reading a file. Assumes nothing.
use Rattle.std.specs.Prelude.{ℕ, ◌||◌, cond, eqb, ℤ, pos, negsuc, Option, None, Some, Result, Ok, Err}
use Rattle.files.specs.declared.Reason.{Reason}
use Rattle.files.specs.declared.Reason.TheVariants as reason
use Rattle.files.specs.declared.FileError.{FileError}

-- how many bytes of the file stand at the start of the lent ones
abbrev pub count_of : Result ℕ FileError → ℕ
count_of (Ok n) = n
count_of (Err error) = 0

-- Linux's numbers: 2 is ENOENT and 20 ENOTDIR, 21 is EISDIR, 13 is EACCES and 1 EPERM.
abbrev pub reason_by : ℕ → Reason
reason_by n =
    cond (eqb n 2 || eqb n 20) reason.Missing
    (cond (eqb n 21) reason.Directory
    (cond (eqb n 13 || eqb n 1) reason.Forbidden
    reason.Other))

-- the reason behind the number of an error
unfoldable pub reason_of : ℤ → Reason
reason_of (pos n) = reason_by n
reason_of (negsuc n) = reason.Other

-- the reason behind an error, which has a number where it is the system's
abbrev pub reason_behind : Option ℤ → Reason
reason_behind None = reason.Other
reason_behind (Some number) = reason_of number
