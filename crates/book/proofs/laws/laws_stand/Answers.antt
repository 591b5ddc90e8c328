use Rattle.book.proofs.Loading.{other_loads_stay, others_stay_admissible, total_counts, within_stays}
use Rattle.book.proofs.Reserving.{freed_gives_back}
use Rattle.book.proofs.laws.laws_stand.Goals as goal

pub returns : goal.returns
returns c =
    record {
      other_loads = other_loads_stay;
      other_legs = others_stay_admissible;
      freed = freed_gives_back;
      within = within_stays;
      total = total_counts;
    }
