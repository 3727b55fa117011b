-- What a store in a region holds, by its fields.
use Rattle.std.specs.Prelude.{◌≤◌, length, map, vec_capacity}
use Rattle.mem_region.specs.declared.region_store.RegionStore.TheInside.{Inside}
use Rattle.mem_region.specs.declared.region_store.TheConstants.{MOST_BYTES}
use Rattle.mem_region.specs.Layout.{blocks_from, AreLaid}
use Rattle.mem_region.specs.Packed.{cell_of}
use Rattle.mem_region.specs.Region.{Region}

-- its limit and its memory
abbrev pub region_of : Inside → Region
region_of store =
    record {
      limit = record { bytes = store.bytes; blocks = store.blocks };
      memory = blocks_from 0 store.next store.table.items (map cell_of store.cells.items);
    }

-- its blocks lie end to end, go past no limit, and both lists have all the room that they may need
pub record IsWhole (store : Inside) : Type 0 where
  pub laid : AreLaid 0 store.next 0 (length store.cells.items) store.table.items
  pub bytes : length store.cells.items ≤ store.bytes
  pub blocks : length store.table.items ≤ store.blocks
  pub few_bytes : store.bytes ≤ MOST_BYTES
  pub bytes_room : store.bytes ≤ vec_capacity store.cells
  pub blocks_room : store.blocks ≤ vec_capacity store.table
