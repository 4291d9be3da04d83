-- What contracts see of the types of this crate.
-- (MySQL: Client/Server Protocol, "Authentication Methods".)
use Rattle.std.specs.Prelude.{List, ℕ}
use Rattle.std.specs.Cow.{cow_slice_items}
use Rattle.mysql_auth.specs.Packets.{SwitchFields}
use Rattle.mysql_auth.specs.PluginData as content
use Rattle.mysql_auth.specs.PluginData.{PluginData}
use Rattle.mysql_auth.specs.Plugins.{Plugin, OldPassword, NativePassword, CachingSha2, ClearPassword, Ed25519, Parsec}
use Rattle.mysql_auth.specs.Plugins.{Other}
use Rattle.mysql_auth.specs.declared.more_data.AuthMoreData.{AuthMoreData}
use Rattle.mysql_auth.specs.declared.more_data.PublicKeyResponse.{PublicKeyResponse}
use Rattle.mysql_auth.specs.declared.next_factor.AuthNextFactor.{AuthNextFactor}
use Rattle.mysql_auth.specs.declared.plugin_data.AuthPluginData.{AuthPluginData}
use Rattle.mysql_auth.specs.declared.plugin_data.AuthPluginData.TheVariants as sent
use Rattle.mysql_auth.specs.declared.switch.AuthSwitchRequest.{AuthSwitchRequest}
use Rattle.mysql_auth.specs.declared.plugin.AuthPlugin.{AuthPlugin}
use Rattle.mysql_auth.specs.declared.plugin.AuthPlugin.TheVariants as plugin

-- a plugin, apart from where its name lies
abbrev pub plugin_view : AuthPlugin → Plugin
plugin_view plugin.MysqlOldPassword = OldPassword
plugin_view plugin.MysqlNativePassword = NativePassword
plugin_view plugin.CachingSha2Password = CachingSha2
plugin_view plugin.MysqlClearPassword = ClearPassword
plugin_view plugin.Ed25519 = Ed25519
plugin_view (plugin.MariadbParsec iterations salt) = Parsec iterations salt
plugin_view (plugin.Other name) = Other (cow_slice_items name)

-- what a plugin sends, apart from where it lies
abbrev pub data_view : AuthPluginData → PluginData
data_view (sent.Old bytes) = content.Old bytes
data_view (sent.Native bytes) = content.Native bytes
data_view (sent.Sha2 bytes) = content.Sha2 bytes
data_view (sent.Ed25519 bytes) = content.Ed25519 bytes
data_view (sent.Parsec bytes) = content.Parsec bytes
data_view (sent.Clear bytes) = content.Clear (cow_slice_items bytes)

-- the data of a packet of more data
abbrev pub more_data_view : AuthMoreData → List ℕ
more_data_view packet = cow_slice_items packet.data

-- the key of the answer to a request for a key
abbrev pub key_view : PublicKeyResponse → List ℕ
key_view packet = cow_slice_items packet.rsa_key

-- the fields of a request for another plugin
abbrev pub switch_view : AuthSwitchRequest → SwitchFields
switch_view packet = record {
  auth_plugin = cow_slice_items packet.auth_plugin;
  plugin_data =
      cow_slice_items packet.plugin_data;
}

-- the fields of a request for one more plugin
abbrev pub next_factor_view : AuthNextFactor → SwitchFields
next_factor_view packet = record {
  auth_plugin = cow_slice_items packet.auth_plugin;
  plugin_data =
      cow_slice_items packet.plugin_data;
}
