-- Types of geometries by their numbers. MySQL Reference Manual, "Supported Spatial Data Formats",
-- 'Well-Known Binary (WKB) Format'; 0 is a geometry of any type.
use Rattle.std.specs.Prelude.{◌∷◌, [], List, Option, ℕ, nat_eq}
use Rattle.mysql_const.specs.Tables.{numbered, entry_of}
use Rattle.mysql_const.specs.declared.geometry.GeometryType.{GeometryType}
use Rattle.mysql_const.specs.declared.geometry.GeometryType.TheVariants.{GEOM_GEOMETRY, GEOM_POINT, GEOM_LINESTRING}
use Rattle.mysql_const.specs.declared.geometry.GeometryType.TheVariants.{GEOM_POLYGON, GEOM_MULTIPOINT}
use Rattle.mysql_const.specs.declared.geometry.GeometryType.TheVariants.{GEOM_MULTILINESTRING, GEOM_MULTIPOLYGON}
use Rattle.mysql_const.specs.declared.geometry.GeometryType.TheVariants.{GEOM_GEOMETRYCOLLECTION}

-- each name's number
abbrev pub geometry_number : GeometryType → ℕ
geometry_number GEOM_GEOMETRY = 0
geometry_number GEOM_POINT = 1
geometry_number GEOM_LINESTRING = 2
geometry_number GEOM_POLYGON = 3
geometry_number GEOM_MULTIPOINT = 4
geometry_number GEOM_MULTILINESTRING = 5
geometry_number GEOM_MULTIPOLYGON = 6
geometry_number GEOM_GEOMETRYCOLLECTION = 7

-- the table: each number and its name
abbrev pub geometries : List (ℕ × GeometryType)
geometries =
    numbered geometry_number (
    GEOM_GEOMETRY ∷ GEOM_POINT ∷ GEOM_LINESTRING ∷ GEOM_POLYGON ∷ GEOM_MULTIPOINT ∷ GEOM_MULTILINESTRING
    ∷ GEOM_MULTIPOLYGON ∷ GEOM_GEOMETRYCOLLECTION ∷ [])

-- the name of a number, where it has one
abbrev pub geometry_named : ℕ → Option GeometryType
geometry_named number = entry_of nat_eq geometries number
