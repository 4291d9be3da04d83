-- The law of the command that logs another user in: what was read is read again.
-- (MySQL: Client/Server Protocol, "COM_CHANGE_USER".)
use Rattle.std.specs.Prelude.{◌≡◌, ℕ, List, [], Ok}
use Rattle.mysql_buf.specs.Bytes.{AreBytes}
use Rattle.mysql_login.specs.ChangedUsers.{ChangeUserFields, change_in_force, change_in_force_at}

-- by the same capabilities, whatever bytes were left
abbrev pub ChangedUsersReadAgain : Type 0
ChangedUsersReadAgain = (capabilities : ℕ) (payload rest : List ℕ) (login : ChangeUserFields) → AreBytes payload →
    change_in_force_at capabilities payload ≡ Ok (login, rest) →
    change_in_force_at capabilities (change_in_force capabilities login) ≡ Ok (login, [])
