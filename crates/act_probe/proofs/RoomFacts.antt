-- The room of the buffers of what was found.
use Rattle.std.proofs.Common.{ℕ, ◌+◌, ◌≤◌, ◌∙◌, refl, arith}
use Rattle.act_probe.specs.declared.buffers.Found.{Found}
use Rattle.act_probe.specs.Batches.{Grows, HasRoom}

-- the words that are read are of no account
pub grows_none : (found : Found) (reads n : ℕ) → Grows found (record found { reads = reads }) n
grows_none found reads n = record {
  hits = omega arith;
  kept = omega arith;
  candidates = omega arith;
  hits_room = refl;
  kept_room = refl;
  candidates_room = refl;
}

pub grows_most : (old new : Found) (n k : ℕ) → Grows old new n → n ≤ k → Grows old new k
grows_most old new n k grows few = record {
  hits = omega (arith, grows.hits, few);
  kept = omega (arith, grows.kept, few);
  candidates = omega (arith, grows.candidates, few);
  hits_room = grows.hits_room;
  kept_room = grows.kept_room;
  candidates_room = grows.candidates_room;
}

-- some were put, and then some more
pub grows_more : (old mid new : Found) (reads m n k : ℕ) → Grows old mid m → Grows (record mid { reads = reads }) new n → m + n ≤ k → Grows old new k
grows_more old mid new reads m n k before after few = record {
  hits = omega (arith, before.hits, after.hits, few);
  kept = omega (arith, before.kept, after.kept, few);
  candidates = omega (arith, before.candidates, after.candidates, few);
  hits_room = after.hits_room ∙ before.hits_room;
  kept_room = after.kept_room ∙ before.kept_room;
  candidates_room = after.candidates_room ∙ before.candidates_room;
}

-- some were put, and there is room for the rest
pub still_room : (old new : Found) (reads m n k : ℕ) → Grows old new m → HasRoom old k → m + n ≤ k → HasRoom (record new { reads = reads }) n
still_room old new reads m n k grows room few = record {
  hits = omega (arith, grows.hits, grows.hits_room, room.hits, few);
  kept = omega (arith, grows.kept, grows.kept_room, room.kept, few);
  candidates = omega (arith, grows.candidates, grows.candidates_room, room.candidates, few);
}
