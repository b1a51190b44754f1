-- The tables of the two passes of a link, and their sizes. (This project's own.)
use Rattle.std.specs.Prelude.{◌≡◌, ℕ, ◌+◌, ◌*◌, ◌≤◌, List, length}
use Rattle.m11_link_modules.specs.Parts.{Part}
use Rattle.m11_link_modules.specs.Positions.{global_names, known_of, modules_in, section_names, sections_in}
use Rattle.m11_link_modules.specs.Rules.{most_globals, most_modules, most_sections}
use Rattle.m11_link_layout.specs.Tables.{LayoutTables, collected_after_all, nothing_collected}
use Rattle.m11_link.specs.Written.{defined_names}

-- the tables of a layout after these parts
abbrev pub collected_of : ℕ → List Part → LayoutTables
collected_of bottom parts = collected_after_all bottom nothing_collected parts

-- the tables have a name for each module that ended, and no more modules have ended than a link accepts
pub record ModulesWithinLimits (bottom : ℕ) (parts : List Part) : Type 0 where
  pub gathered : length (collected_of bottom parts).names ≡ modules_in parts
  pub most : modules_in parts ≤ most_modules

-- the tables have each section once; the current module has entered no more sections than all modules together; and there are no more
-- sections than a link accepts
pub record SectionsWithinLimits (bottom : ℕ) (parts : List Part) : Type 0 where
  pub gathered : length (collected_of bottom parts).sections ≡ length (section_names parts)
  pub known : length (known_of parts).sections ≡ length (section_names parts)
  pub entered : length (known_of parts).entered ≤ length (section_names parts)
  pub most : length (section_names parts) ≤ most_sections

-- the tables have at most one contribution for each section entry; each module, including one that hasn't ended, has at most one entry for
-- each section; and the number of entries is at most the limit on sections times one more than the limit on modules
pub record ContributionsWithinLimits (bottom : ℕ) (parts : List Part) : Type 0 where
  pub gathered : length (collected_of bottom parts).contributions ≤ length (sections_in parts)
  pub entered : length (sections_in parts) ≤ (modules_in parts + 1) * length (section_names parts)
  pub most : length (sections_in parts) ≤ (most_modules + 1) * most_sections

-- the tables have each global at most once as defined, as referred to and as weak; and there are no more names of globals than a link
-- accepts
pub record GlobalsWithinLimits (bottom : ℕ) (parts : List Part) : Type 0 where
  pub definitions : length (collected_of bottom parts).definitions ≤ length (global_names parts)
  pub references : length (collected_of bottom parts).references ≤ length (global_names parts)
  pub weak : length (collected_of bottom parts).weak ≤ length (global_names parts)
  pub known : length (known_of parts).globals ≡ length (global_names parts)
  pub defined : length (defined_names parts) ≤ length (global_names parts)
  pub most : length (global_names parts) ≤ most_globals
