-- What is excluded of the mode and the character set that a connection knows.
-- MySQL Reference Manual, "Server SQL Modes", "Server Tracking of Client Session State", "Stored Objects";
-- MySQL: Client/Server Protocol, "Status Flags", "OK_Packet", "COM_RESET_CONNECTION".
use Rattle.std.specs.Prelude.{◌≡◌, ℕ, true, false, List, [], ◌∷◌, codes, Option, Some, None}
use Rattle.mysql_bytes.specs.Modes.{mode_of_sql_mode}
use Rattle.mysql_bytes.specs.declared.mode.Mode.{Mode}
use Rattle.mysql_commands.specs.Commands.{ChangeUser, Ping, ResetConnection}
use Rattle.mysql_login.specs.ChangedUsers.{ChangeUserFields}
use Rattle.mysql_authentication.specs.Events.{Authentication as AuthenticationSaid}
use Rattle.mysql_ok_packets.specs.OkPackets.{OkPacket}
use Rattle.mysql_queries.specs.Tokens.{HasTokens}
use Rattle.mysql_reply_events.specs.Events.Event.{ErrorEvent}
use Rattle.mysql_server_packets.specs.Packets.{ServerError}
use Rattle.mysql_session_modes.specs.SessionModes.{BehindText, is_safe, is_safe_set, mode_behind_tokens, unknown_mode}
use Rattle.mysql_session_modes.specs.Texts.{is_one_statement}
use Rattle.mysql_session_modes.specs.Told.{does_count, known_behind, mode_behind_ok}
use Rattle.mysql_session_modes.specs.Told.Told.{Nothing, Unreadable, Value}
use Rattle.mysql_session_modes.specs.declared.session_mode.SessionMode.{SessionMode}
use Rattle.mysql_connection_modes.specs.Modes.{ModeBehind}
use Rattle.mysql_connection_rules.specs.Events.Event.{Asked, Authentication, Replied}
use Rattle.mysql_connection_rules.specs.Standing.{Standing}

-- an OK packet with this status and these changes of the session's state
abbrev pub ok_with : (status : ℕ) → (state : Option (List ℕ)) → OkPacket
ok_with status state = record {
  affected_rows = 0;
  last_insert_id = None;
  status_flags = status;
  warnings = 0;
  info = None;
  session_state_info = state;
}

-- The status of an OK tells nothing, whatever it is. Excluded: a mode that is told by a status, and one that a
-- status takes away.
abbrev pub StatusesTellNothing : Type 0
StatusesTellNothing = (s : SessionMode) (status : ℕ) → mode_behind_ok s (ok_with status None) ≡ s

-- A login tells nothing, and a change of user and a reset leave nothing known. Excluded: a mode by a login's status,
-- and one that stays behind a reset.
pub record BeginningsTellNothing : Type 0 where
  pub login : (at : Standing) (said : AuthenticationSaid) (old new : SessionMode) →
      ModeBehind at (Authentication said) old new → new ≡ old
  pub change : (at : Standing) (login : ChangeUserFields) (old new : SessionMode) →
      ModeBehind at (Asked (ChangeUser login)) old new → new ≡ unknown_mode
  pub reset : (at : Standing) (old new : SessionMode) →
      ModeBehind at (Asked ResetConnection) old new → new ≡ unknown_mode

-- A SET that names the variable leaves it unknown, whether it is told, as MariaDB doesn't tell `SET @@sql_mode`, or
-- refused. Excluded: a mode kept behind either.
pub record SetsForget : Type 0 where
  pub mode : (old new : SessionMode) → BehindText (codes "SET @@sql_mode=''") old new → new.mode ≡ None
  pub set : (old new : SessionMode) → BehindText (codes "SET NAMES gbk") old new → new.is_safe_set ≡ None
  pub refused : (at : Standing) (error : ServerError) (old new : SessionMode) →
      ModeBehind at (Replied (ErrorEvent error)) old new → new ≡ old

-- What a `SET STATEMENT` tells doesn't count. MariaDB Server Documentation, "SET STATEMENT". Excluded: a mode told so.
abbrev pub SetStatementsCountForNothing : Type 0
SetStatementsCountForNothing = (s : SessionMode) (tokens : List (List ℕ)) →
    (mode_behind_tokens tokens (codes "Set Statement a=1 FOR DO 1") s).counts ≡ false

-- What is told where it doesn't count, before further results too, and what can't be read, isn't known. Excluded: a
-- mode of either.
pub record ToldInVain : Type 0 where
  pub uncounted : (value : List ℕ) (known : Option Mode) →
      known_behind false mode_of_sql_mode (Value value) known ≡ None
  pub unreadable : (known : Option Mode) → known_behind true mode_of_sql_mode Unreadable known ≡ None
  pub further : (s : SessionMode) (state : Option (List ℕ)) → does_count s (ok_with 0x0a state) ≡ false
  pub silent : (known : Option Mode) → known_behind true mode_of_sql_mode Nothing known ≡ known

-- Two statements are two, also where a `;` stands in a comment that a server runs, behind a dollar quote, or, by our
-- tokens, in a string that begins in a comment that servers skip. Excluded: a mode kept behind them.
pub record TwoAreTwo : Type 0 where
  pub behind : (rest : List (List ℕ)) → is_one_statement (codes ";" ∷ codes "S" ∷ rest) ≡ false
  pub version : (rest : List (List ℕ)) → is_one_statement (codes "/*!50000 ; SET @@sql_mode=ansi */" ∷ rest) ≡ false
  pub mariadb : (rest : List (List ℕ)) → is_one_statement (codes "/*M! ; SET @@sql_mode=ansi */" ∷ rest) ≡ false
  pub opening : (rest : List (List ℕ)) → is_one_statement (codes "/*!" ∷ rest) ≡ false
  pub dollar : (rest : List (List ℕ)) → is_one_statement (codes "$" ∷ rest) ≡ false
  pub hidden : (old new : SessionMode) → BehindText (codes "DO/*!9'*/;SET @@sql_mode=ansi -- '") old new →
      new.mode ≡ None
  pub left_out : is_one_statement (codes ";" ∷ codes " " ∷ codes "-- a" ∷ []) ≡ true

-- In NO_BACKSLASH_ESCAPES a backslash hides no quote: `'\';S` is a string and a second statement. Excluded: one string
-- to the end.
abbrev pub BackslashesHideNothing : Type 0
BackslashesHideNothing = HasTokens (record { no_backslash_escapes = true; ansi_quotes = false })
    (0x27 ∷ 0x5c ∷ 0x27 ∷ 0x3b ∷ 0x53 ∷ []) ((0x27 ∷ 0x5c ∷ 0x27 ∷ []) ∷ (0x3b ∷ []) ∷ (0x53 ∷ []) ∷ [])

-- Character sets in which a quote may be the second byte of a character aren't safe, nor is one that isn't listed.
-- Excluded: quotes in them.
pub record UnsafeSets : Type 0 where
  pub gbk : is_safe_set (codes "gbk") ≡ false
  pub unknown : is_safe_set (codes "utf99") ≡ false
  pub swe7 : is_safe_set (codes "swe7") ≡ false
  pub any_case : is_safe_set (codes "UTF8MB4") ≡ true
  pub mode : (mode : Mode) → is_safe (record { mode = Some mode; is_safe_set = Some false; counts = true }) ≡ false
  pub set : is_safe (record { mode = None; is_safe_set = Some true; counts = true }) ≡ false

-- A ping leaves both. Excluded: a mode that no command leaves.
abbrev pub PingsLeaveBoth : Type 0
PingsLeaveBoth = (at : Standing) (old new : SessionMode) → ModeBehind at (Asked Ping) old new → new ≡ old

-- An ordinary text leaves both. Excluded: a mode that each text takes away.
pub record TextsKeep : Type 0 where
  pub mode : (old new : SessionMode) → BehindText (codes "SELECT 1") old new → new.mode ≡ old.mode
  pub set : (old new : SessionMode) → BehindText (codes "SELECT 1") old new → new.is_safe_set ≡ old.is_safe_set
