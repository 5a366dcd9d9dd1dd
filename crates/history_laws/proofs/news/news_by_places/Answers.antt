use Rattle.history_laws.proofs.NewsPlaced.{news-placed}
use Rattle.history_laws.proofs.news.news_by_places.Goals as goal

pub returns : goal.returns
returns c = news-placed
