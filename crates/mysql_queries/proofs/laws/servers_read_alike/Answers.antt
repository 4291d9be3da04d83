use Rattle.mysql_queries.proofs.OnServers.{alone_is_agreed, no_version_is_read, servers_read_alike}
use Rattle.mysql_queries.proofs.laws.servers_read_alike.Goals as goal

pub returns-clause-alone : goal.returns-clause-alone
returns-clause-alone c = alone_is_agreed

pub returns-clause-version : goal.returns-clause-version
returns-clause-version c = no_version_is_read

pub returns-clause-servers : goal.returns-clause-servers
returns-clause-servers c = servers_read_alike
