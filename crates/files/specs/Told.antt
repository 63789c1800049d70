-- What can be said of files: which bytes are read, and which errors are met, only the system knows.
use Rattle.std.specs.Prelude.{ℕ, ◌≤◌, ◌<◌, ◌≡◌, ◌≢◌, true, List, ℤ, pos, length, Result, IfErr, IsErrAnd, MatchResult}
use Rattle.std.specs.Int.Signed.{lt_z}
use Rattle.files.specs.declared.errno.Failure.{Failure}

-- An error's number is above 0.
abbrev pub Above : ℤ → Type 0
Above e = lt_z (pos 0) e ≡ true

-- So many bytes lie within the buffer, which has n; or there is an error.
abbrev pub Within : Result ℕ Failure → ℕ → Type 0
Within r n = MatchResult r (λ k. k ≤ n) (λ e. Above e.number)

-- Nothing failed, or there is an error.
abbrev pub Outcome : Result Unit Failure → Type 0
Outcome r = IfErr r (λ e. Above e.number)

-- Of replacing a file with this name: 36 (ENAMETOOLONG) where the name has more than 4,096 bytes.
pub record Replaced (name : List ℕ) (r : Result Unit Failure) : Type 0 where
  pub outcome : Outcome r
  pub long : 4096 < length name → IsErrAnd r (λ e. e.number ≡ pos 36)

-- Of a text that was said: that standard output is closed, 9 (EBADF), is no error.
pub record Said (r : Result Unit Failure) : Type 0 where
  pub outcome : Outcome r
  pub closed : IfErr r (λ e. e.number ≢ pos 9)
