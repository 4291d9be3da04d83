-- The flags of an execution and of its parameters.
-- MySQL: Client/Server Protocol, "COM_STMT_EXECUTE" (new_params_bind_flag and parameter_types).
use Rattle.std.specs.Prelude.{ℕ, List, [], ◌∷◌, codes}

-- the table of the flags before the parameters' types: each flag's name and bit
abbrev pub execute_params_flags : List (List ℕ × ℕ)
execute_params_flags =
    (codes "NEW_PARAMS_BOUND", 1)
    ∷ []

-- the table of the flags beside a parameter's type: each flag's name and bit
abbrev pub execute_param_flags : List (List ℕ × ℕ)
execute_param_flags =
    (codes "UNSIGNED", 0x80)
    ∷ []
