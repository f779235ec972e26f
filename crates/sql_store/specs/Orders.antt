-- The layout of the tables by the order in which they were made (own).
use Rattle.record_rows.specs.Tables.{Layout, life_first, slots_first}
use Rattle.sql_store.specs.declared.order.Order.{Order}
use Rattle.sql_store.specs.declared.order.Order.TheVariants.{LifeFirst, SlotsFirst}

abbrev pub layout_of : Order → Layout
layout_of LifeFirst = life_first
layout_of SlotsFirst = slots_first
