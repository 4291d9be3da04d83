-- Attributes that stand before a query's text. MySQL: Client/Server Protocol, "COM_QUERY".
use Rattle.std.specs.Prelude.{ℕ, ◌==◌, ◌||◌, true, List, Option}
use Rattle.mysql_buf.specs.Reading.{lenenc_int_at}
use Rattle.mysql_executions.specs.declared.types.Attribute.{Attribute}
use Rattle.mysql_executions.specs.Executions.{attributes_at, binding_at}
use Rattle.mysql_executions.specs.Fields.{◌>>=◌, ◌>>◌, must}
use Rattle.mysql_executions.specs.Types.{types_at}

-- how many there are, in one set; where there are any the bitmap, their types, which always come,
-- with their names, and their values. Behind them stands the text
unfoldable pub query_attributes_at : List ℕ → Option (List Attribute × List ℕ)
query_attributes_at bytes = do
  count ← lenenc_int_at bytes
  sets ← lenenc_int_at count.1
  must (sets.0 == 1)
  binding ← binding_at count.0 sets.1
  must (binding.bound || (count.0 == 0))
  types ← types_at true count.0 binding.rest
  attributes_at binding.nulls 0 types.0 types.1
