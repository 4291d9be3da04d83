-- What the command that logs another user in is, apart from its fields' types.
-- (MySQL: Client/Server Protocol, "COM_CHANGE_USER".)
use Rattle.std.specs.Prelude.{option_map}
use Rattle.mysql_auth.specs.Views.{plugin_view}
use Rattle.mysql_handshake_response.specs.AttributeViews.{attributes_view}
use Rattle.mysql_login.specs.ChangedUsers.{ChangeUserFields, MoreFields}
use Rattle.mysql_handshake_response.specs.TextViews.{text_view}
use Rattle.mysql_login.specs.declared.change_user.ComChangeUser.{ComChangeUser}
use Rattle.mysql_login.specs.declared.change_user.ComChangeUserMoreData.{ComChangeUserMoreData}

abbrev pub more_view : ComChangeUserMoreData → MoreFields
more_view p = record {
  character_set = p.character_set;
  plugin = option_map plugin_view p.auth_plugin;
  attributes = option_map attributes_view p.connect_attributes;
}

abbrev pub change_user_view : ComChangeUser → ChangeUserFields
change_user_view p = record {
  user = text_view p.user;
  scramble = text_view p.auth_plugin_data;
  database = text_view p.database;
  more = option_map more_view p.more_data;
}
