-- The object at which reading stops, after those that were read before it.
use Rattle.std.proofs.Common.{◌≡◌, ℕ, ◌<◌, List, length, get_or, set, Option, Err}
use Rattle.m11_base.specs.Feed.{Text}
use Rattle.m11_link_modules.specs.Parts.{Part}
use Rattle.m11_link_layout.specs.Layout.{LayoutState}
use Rattle.m11_link_layout.specs.declared.fault.LinkFault.{LinkFault}
use Rattle.m11_base_writes.specs.Passes.{pass_of}
use Rattle.m11_link.specs.FirstPass.{LaysOutObject}
use Rattle.m11_link.proofs.FirstRead.{LaidAll}
use Rattle.m11_link.proofs.Room.{feeds_left, new_feeds, old_feeds}
use Rattle.m11_link_load_map.specs.Stopping.{StopsIn}

module _ {F : Type 0} (text : F → Option Text) (faults : F → ℕ) (initial now : List F) (index bottom : ℕ) (before : List Part)
    (layout new : LayoutState) (l : LaidAll text faults initial now index bottom before layout) (inside : index < length now)
    (d x z : F) (x-is : x ≡ get_or now index d) where
  pub stops_in : (stopped : LinkFault) → LaysOutObject (text x) (text z) (faults x) (faults z) bottom l.reaches.parts new (Err stopped)
      → StopsIn (pass_of text faults initial (set now index z)) bottom before index stopped
  stops_in stopped h = record {
    done = l.feeds.done;
    done_now = l.feeds.done_now;
    object = x;
    object_now = z;
    others = feeds_left text faults initial now index l.sources l.feeds inside d x z x-is;
    old-is = old_feeds text faults initial now index l.sources l.feeds inside d x z x-is;
    new-is = new_feeds text faults initial now index l.sources l.feeds inside d x z x-is;
    index-is = l.feeds.index-is;
    index_now = l.feeds.index_now;
    items = l.items;
    given = record { sources = l.sources; given = l.feeds.given; are = l.are };
    parts = l.reaches.parts;
    taken-is = l.reaches.taken-is;
    layout = new;
    stops = h;
  }
