use Rattle.std.proofs.Common.{◌≡◌, ℕ, length, min, sym, ap, ◌∙◌, arith}
use Rattle.act_rows.specs.declared.views.Desk.{Desk}
use Rattle.act_rows.specs.Versions.{newest}
use Rattle.act_rows.proofs.Watching.{watched_more, least_free, least_looked, looking_more, found_free, found_old, found_new}
use Rattle.act_rows.proofs.look.look_at_all.Goals.{in-Some+then-seen-bound, in-Some+else-seen-bound, in_default}
use Rattle.act_rows.proofs.look.look_at_all.Goals as goal

pub loop-j-preserved : goal.loop-j-preserved
loop-j-preserved g c =
    let i = c.loop-j.invariant in
    let d0 : Desk = c.args.master.now.desk in
    let d : Desk = c.loop-j.master.desk in
    let j : ℕ = c.loop-j.j in
    let bound : ℕ = c.loop-j.bound in
    let same : newest d ≡ newest d0 = ap length i.watched.history in
    elim c.match-look.branch [
      | in-Some+then-seen-bound w ↦
          let s = w.in-Some.ensures.some in
          let less = w.if-seen-bound.true in
          rw (w.bound-is, w.reader-is, w.word-is, s.3) (record {
            table = w.in-Some.ensures.table ∙ i.table;
            watched = watched_more d0 d j w.in-Some.seen.word s.0 i.watched s.1;
            least = let e : w.in-Some.seen.bound ≡ min bound w.in-Some.seen.bound = omega arith in e ∙ least_looked d j w.in-Some.seen.word s.0 bound w.in-Some.seen.bound s.1 s.2 i.least;
            looking = looking_more d0 d j w.in-Some.seen.word i.looking;
            found = λ h. found_new d0 d j w.in-Some.seen.word s.0 bound w.in-Some.seen.bound i.looking s.1 s.2 i.least less;
          })
      | in-Some+else-seen-bound w ↦
          let s = w.in-Some.ensures.some in
          let more = w.if-seen-bound.false in
          rw (w.bound-is, w.reader-is, w.word-is, s.3) (record {
            table = w.in-Some.ensures.table ∙ i.table;
            watched = watched_more d0 d j w.in-Some.seen.word s.0 i.watched s.1;
            least = let e : bound ≡ min bound w.in-Some.seen.bound = omega arith in e ∙ least_looked d j w.in-Some.seen.word s.0 bound w.in-Some.seen.bound s.1 s.2 i.least;
            looking = looking_more d0 d j w.in-Some.seen.word i.looking;
            found = λ h. let b = s.2 in found_old d0 d j w.in-Some.seen.word s.0 bound c.loop-j.reader c.loop-j.word s.1 (omega arith) (i.found h);
          })
      | in_default w ↦
          let s = w.in_default.ensures.none in
          rw (w.bound-is, w.reader-is, w.word-is, s.1) (record {
            table = i.table;
            watched = i.watched;
            least = i.least ∙ sym (least_free (newest d) d.bounds j s.0);
            looking = i.looking;
            found = λ h. found_free d0 d j bound c.loop-j.reader c.loop-j.word s.0 (i.found h);
          })
    ]
