-- An entry of the table, 0 past its end. Assumes nothing: this is a definition.
use Rattle.std.specs.Prelude.{ℕ, List, cond, get_or, ltb}

unfoldable pub look_in : List ℕ → ℕ → ℕ
look_in tab i = cond (ltb i 9344) (get_or tab i 0) 0
