-- A cache as a device.
use Rattle.layers.specs.Cache.{Table}
use Rattle.cache.specs.declared.cache.Cache.{Cache}
use Rattle.cache.specs.Rows.{table_of}

-- what its rows have
abbrev pub table : {D : Type 0} {d : _} → Cache D d → Table
table c = table_of c.rows

-- the device below
abbrev pub below_of : {D : Type 0} {d : _} → Cache D d → D
below_of c = c.below
