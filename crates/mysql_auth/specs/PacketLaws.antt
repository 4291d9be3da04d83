-- A byte and a text to the end are read again, and so is a request for another plugin or for one more.
use Rattle.std.proofs.Common.{◌≡◌, ℕ, ◌<◌, List, [], ◌++◌, Ok, refl, append-nil, lit<}
use Rattle.mysql_auth.specs.Packets.{SwitchFields, headed, headed_at, next_factor, next_factor_at, switch, switch_at}
use Rattle.mysql_auth.specs.Packets.{switch_kept}
use Rattle.mysql_fields.specs.TextLaws.{null_text_at-back}
use Rattle.mysql_fields.specs.Texts.{null_text}
use Rattle.mysql_field_constants.specs.ConstantLaws.{constant_at-back}

pub headed_at-back : (header : ℕ) (text rest : List ℕ) → header < 256 → rest ≡ [] →
    headed_at header (headed header text ++ rest) ≡ Ok (text, rest)
unfolding headed headed_at
headed_at-back header text rest fits h =
    rw (h, append-nil text, append-nil text, constant_at-back 1 header text fits) refl

pub switch_at-back : (p : SwitchFields) (rest : List ℕ) → rest ≡ [] →
    switch_at (switch p ++ rest) ≡ Ok (switch_kept p, rest)
unfolding switch switch_at
switch_at-back p rest h =
    let named = null_text p.auth_plugin ++ p.plugin_data in
    rw (
      h,
      append-nil p.plugin_data,
      append-nil named,
      constant_at-back 1 254 named (lit< tt),
      null_text_at-back p.auth_plugin p.plugin_data,
    ) refl

pub next_factor_at-back : (p : SwitchFields) (rest : List ℕ) → rest ≡ [] →
    next_factor_at (next_factor p ++ rest) ≡ Ok (switch_kept p, rest)
unfolding next_factor next_factor_at
next_factor_at-back p rest h =
    let named = null_text p.auth_plugin ++ p.plugin_data in
    rw (
      h,
      append-nil p.plugin_data,
      append-nil named,
      constant_at-back 1 2 named (lit< tt),
      null_text_at-back p.auth_plugin p.plugin_data,
    ) refl
